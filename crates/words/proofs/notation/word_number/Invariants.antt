-- `notation::word_number`. The invariant: the digits that are left, behind those that say n, say what all do. Assumes nothing.
use Rattle.std.proofs.Common.{◌≡◌, ◌<◌, ◌^◌, drop}
use Rattle.words.specs.Notation.{number_from}
use Rattle.words.proofs.notation.word_number.Given as goal

abbrev pub invariant-loop-c : goal.invariant-loop-c
invariant-loop-c l = (l.n < 2 ^ 64) × (number_from l.n (drop l.c-index l.w) ≡ number_from 0 l.w)
