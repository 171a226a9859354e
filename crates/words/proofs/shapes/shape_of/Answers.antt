-- `shapes::shape_of`: a word of a script, or a further word. Assumes nothing.
use Rattle.std.proofs.Common.{◌∙◌, sym}
use Rattle.words.specs.Shapes.{shape_in as shape_among}
use Rattle.words.proofs.ShapeLaws.{script_first, cases_alone}
use Rattle.words.proofs.shapes.shape_of.Goals as goal

pub returns-in-Some : goal.returns-in-Some
returns-in-Some c = rw (script_first, sym c.shape_in.ensures ∙ c.in-Some.is)

pub returns-then-further : goal.returns-then-further
returns-then-further c =
    rw (script_first, sym c.shape_in.ensures ∙ c.in_default.is, c.if-further.true, cases_alone, sym c.shape_in-then-further.ensures) c.unwrap_or.ensures

pub returns : goal.returns
unfolding shape_among
returns c = rw (script_first, sym c.shape_in.ensures ∙ c.in_default.is, c.if-further.false)
