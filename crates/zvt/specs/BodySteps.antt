-- Steps of the code, private: what the readers of a body answer, by the definitions of crate zvt_rules. Definitions only.
use Rattle.std.specs.Prelude.{ℕ, ◌+◌, ◌-◌, ◌&&◌, ◌||◌, List, length, replicate, leb, eqb, Result, None}
use Rattle.zvt_rules.specs.declared.Layout.{Layout}
use Rattle.zvt_rules.specs.declared.Refusal.{Refusal}
use Rattle.zvt_rules.specs.declared.Places.{Places}
use Rattle.basics.specs.Lists.{part}
use Rattle.zvt_rules.specs.Message.{Body, body_of, secured_of, layout_of, count_body}
use Rattle.zvt_rules.specs.believed.Writing.{body_bytes}
use Rattle.zvt_rules.specs.Shortest.{short_body}
use Rattle.zvt_rules.specs.Listed.{listed_body, password_in}
use Rattle.zvt_rules.specs.declared.Header.{Header}
use Rattle.zvt_rules.specs.declared.Outline.{Outline}
use Rattle.zvt.specs.declared.objects.Tally.{Tally}
use Rattle.zvt.specs.declared.objects.Located.{Located}
use Rattle.zvt.specs.ObjectSteps.{as_part, located}
use Rattle.zvt.specs.FieldSteps.{spans_in}

-- how many bytes fewer the shortest writing takes
unfoldable pub spare_body : Body → ℕ
spare_body b = length (body_bytes b) - length (body_bytes (short_body b))

unfoldable pub body_tally : List ℕ → Body → Tally
body_tally s b = record { size = length s; objects = count_body b; spare = spare_body b }

unfoldable pub secured_answer : ℕ → List ℕ → Result Tally Refusal
secured_answer at s = as_part (body_tally s) (secured_of at s)

unfoldable pub body_answer : ℕ → List ℕ → Layout → Result Tally Refusal
body_answer at s layout = as_part (body_tally s) (body_of at s layout)

unfoldable pub body_in : Header → List ℕ → Result Tally Refusal
body_in h s = body_answer h.start (part h.start (h.start + h.length) s) (layout_of h.class h.instruction)

-- nothing found
abbrev pub no_places : Places
no_places = record { password = None; fields = replicate 4 None }

-- where the password and the fields with those ids lie in a body that begins at place at
unfoldable pub places_in : List ℕ → ℕ → Body → Places
places_in ids at b = record { password = password_in at b; fields = spans_in (listed_body at b) ids }

unfoldable pub body_located : List ℕ → ℕ → List ℕ → Layout → Result (Located Places) Refusal
body_located ids at s layout = located (body_tally s) (places_in ids at) (body_of at s layout)

-- the body that a header announces
unfoldable pub body_found : List ℕ → Header → List ℕ → Result (Located Places) Refusal
body_found ids h s = body_located ids h.start (part h.start (h.start + h.length) s) (layout_of h.class h.instruction)

-- a message by its header and the tally of its body
unfoldable pub described : Header → Tally → Outline
described h t =
    record {
      class = h.class;
      instruction = h.instruction;
      start = h.start;
      length = h.length;
      objects = t.objects;
      shortest = eqb t.spare 0 && (eqb h.start 3 || leb 255 h.length);
    }
