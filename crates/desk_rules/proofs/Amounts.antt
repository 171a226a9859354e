-- The amount that a lane remembers, and the one that an end settles, have at most twelve digits. Assumes nothing.
use mathlib.Core.Path.{◌≡◌, refl, subst}
use mathlib.Core.List.{List}
use Prim.Native.Nat.{ℕ, ◌+◌, ◌*◌, ◌≤◌}
use native.Mathlib.Omega.{arith}
use lib.ListN.{get_or}
use lib.Dec.{eqb}
use Rattle.std.proofs.Common.{Err, None, Ok, Option, Result, Some}
use Rattle.basics.specs.Lists.{among}
use Rattle.zvt_rules.specs.Reading.{Reading, got, refused}
use Rattle.basics.specs.believed.Lists.{Bytes}
use Rattle.zvt_rules.specs.Message.{Heading, Message, read_of}
use Rattle.zvt_rules.specs.Values.{Found, missing, found, value_in, amount_of, amount_in, status_in, body_fields, status_fields}
use Rattle.zvt_rules.specs.declared.Status.{Status}
use Rattle.zvt_rules.specs.Heard.{first_byte, told_in}
use Rattle.zvt_rules.proofs.Told.{Twelve, told-twelve}
use Rattle.basics.proofs.Tests.{pick-test}
use Rattle.desk_rules.specs.declared.Lane.{Lane}
use Rattle.desk_rules.specs.declared.Line.{Line}
use Rattle.desk_rules.specs.declared.Moved.{Moved}
use Rattle.desk_rules.specs.declared.Moved.TheVariants.{Stays, Becomes, Ends}
use Rattle.desk_rules.specs.declared.Opening.{Opening}
use Rattle.zvt_rules.specs.declared.Refusal.{Refusal}
use Rattle.desk_rules.specs.Numbers.{most_asked}
use Rattle.desk_rules.specs.Kinds.{is_idle}
use Rattle.desk_rules.specs.Lanes.{blank_line}
use Rattle.desk_rules.specs.Openings.{within_limits, refers_to, stands}
use Rattle.desk_rules.specs.Course.{running_pairs, pair_is, heard_waiting, aborted_by, reported_by, moved_by, after_body, heard_running, heard, lost_by, opened_by, Call, opening, message, lost, NumbersFit, moves}
use Rattle.desk_rules.specs.Memory.{ToldSmall}
use Rattle.desk_rules.proofs.Heard.{heard-cases, completed-cases}

abbrev pub Small : ℕ → Type 0
Small n = n ≤ most_asked

abbrev pub LaneFits : Lane → Type 0
LaneFits l = ToldSmall l.status.amount

abbrev pub LinesFit : List Line → Type 0
LinesFit ls = (k : ℕ) → Small (get_or ls k blank_line).settled

abbrev pub Fits : Result Moved Refusal → Type 0
Fits (Err r) = Unit {0}
Fits (Ok Stays) = Unit {0}
Fits (Ok (Becomes l)) = LaneFits l
Fits (Ok (Ends outcome settled code)) = Small settled

told-fits : (f : Found) → Twelve f → ToldSmall (amount_of f)
unfolding Twelve ToldSmall amount_of
told-fits missing h = tt
told-fits (found value) h = h

aborted-fits : (start : ℕ) (t : Option ℕ) → Fits (aborted_by start t)
unfolding aborted_by
aborted-fits start None = tt
aborted-fits start (Some b) = omega arith

module _ (l : Lane) (h : LaneFits l) where
  approved-fits : (a : ℕ) → l.status.amount ≡ Some a → Small a
  unfolding ToldSmall
  approved-fits a e = subst ToldSmall e h

  reported-fits : (status : Status) (t : Option ℕ) → ToldSmall status.amount → Fits (reported_by l status t)
  unfolding reported_by
  reported-fits status None k = tt
  reported-fits status (Some c) k = k

  module _ (s : List ℕ) (b : Bytes s) where
    read_fits : (r : Reading Message) → read_of s ≡ r → Fits (after_body l r)
    unfolding after_body moved_by told_in status_fields status_in amount_in
    read_fits (refused f) e = tt
    read_fits (got m) e =
        pick-test Fits (pair_is m.class m.instruction 0x06 0x0F) (λ _. completed-cases Fits l (λ c. omega arith) approved-fits l.status.code)
        (λ _. pick-test Fits (pair_is m.class m.instruction 0x06 0x1E) (λ _. aborted-fits _ (first_byte m.body))
        (λ _. pick-test Fits (pair_is m.class m.instruction 0x04 0x0F)
        (λ t. reported-fits (told_in m).status _ (rw t (told-fits (value_in 0x04 (body_fields m.body)) (told-twelve s m b e))))
        (λ _. tt)))

    waiting-fits : (x : Heading) → Fits (heard_waiting l x)
    unfolding heard_waiting
    waiting-fits x =
        pick-test Fits (eqb x.size 0)
        (λ _. pick-test Fits (pair_is x.class x.instruction 0x80 0x00) (λ _. h)
        (λ _. pick-test Fits (eqb x.class 0x84) (λ _. omega arith) (λ _. tt)))
        (λ _. tt)

    running-fits : (x : Heading) → Fits (heard_running l s x)
    unfolding heard_running
    running-fits x =
        pick-test Fits (among running_pairs (x.class * 256 + x.instruction))
        (λ _. read_fits (read_of s) refl)
        (λ _. tt)

    heard-fits : Fits (heard l s)
    heard-fits = heard-cases Fits l s (λ r. tt) (λ x _ _. waiting-fits x) (λ x _ _. running-fits x)

opened-fits : (l : Lane) (o : Opening) (line : Line) → Fits (opened_by l o line)
unfolding opened_by ToldSmall
opened-fits l o line =
    pick-test Fits (is_idle l.phase)
    (λ _. pick-test Fits (within_limits o) (λ _. pick-test Fits (stands (refers_to o) line) (λ _. tt) (λ _. tt)) (λ _. tt)) (λ _. tt)

pub moves-fit : (l : Lane) (ls : List Line) (c : Call) → LaneFits l → NumbersFit c → Fits (moves l ls c)
unfolding moves NumbersFit lost_by
moves-fit l ls (opening i o) h n = opened-fits l o _
moves-fit l ls (message i s) h n = heard-fits l h s n
moves-fit l ls (lost i) h n = pick-test Fits (is_idle l.phase) (λ _. tt) (λ _. omega arith)
