-- The lines of a script. The loop's invariant: the lines go on and come to an end, and the desk is valid. Assumes nothing.
use Rattle.tape_rules.specs.Recording.{ValidTaped}
use Rattle.script.proofs.play_in.Given as goal

abbrev pub invariant-loop-s : goal.invariant-loop-s
invariant-loop-s l =
    let lines = goal.iterator-loop-s in lines.can_next l.s-iterator × lines.is_finite l.s-iterator × ValidTaped l.turn.taped
