-- Steps of the code, private: what the readers of data objects answer, by the definitions of crate zvt_rules. Definitions only.
use Rattle.std.specs.Prelude.{ℕ, ◌+◌, ◌-◌, Bool, List, length, get_or, ltb, Err, Ok, Result}
use Rattle.zvt_rules.specs.Reading.{Reading, got, refused, fault_at, unless, and_then}
use Rattle.zvt_rules.specs.Refusals.{ends_too_soon}
use Rattle.zvt_rules.specs.Objects.{nested, form_size, tag_size, Len, len_of, Head, from, to, head_of, Obj, Objs, OneRead, RunRead, one_of, run_of}
use Rattle.zvt_rules.specs.believed.Writing.{obj_bytes, run_bytes}
use Rattle.zvt_rules.specs.Shortest.{form_for, short_obj, short_run}
use Rattle.zvt.specs.declared.objects.Bounds.{Bounds}
use Rattle.zvt.specs.declared.objects.Tally.{Tally}
use Rattle.zvt.specs.declared.objects.Located.{Located}
use Rattle.zvt_rules.specs.declared.Refusal.{Refusal}

-- a reading as the code answers it
unfoldable pub as_tag : Reading ℕ → Result ℕ Refusal
as_tag (got k) = Ok k
as_tag (refused r) = Err r

unfoldable pub as_len : Reading Len → Result (ℕ × ℕ) Refusal
as_len (got l) = Ok ((form_size l.form), l.value)
as_len (refused r) = Err r

unfoldable pub as_bounds : Reading Bounds → Result Bounds Refusal
as_bounds (got b) = Ok b
as_bounds (refused r) = Err r

unfoldable pub as_part : {A : Type 0} → (A → Tally) → Reading A → Result Tally Refusal
as_part f (got a) = Ok (f a)
as_part f (refused r) = Err r

-- the same, and where lies what was asked for in what is read
unfoldable pub located : {A T : Type 0} → (A → Tally) → (A → T) → Reading A → Result (Located T) Refusal
located tally lies (got a) = Ok (record { tally = tally a; lies = lies a })
located tally lies (refused r) = Err r

unfoldable pub tag_answer : ℕ → List ℕ → Result ℕ Refusal
tag_answer at s = as_tag (tag_size at s)

unfoldable pub len_answer : ℕ → List ℕ → Result (ℕ × ℕ) Refusal
len_answer at s = as_len (len_of at s)

-- a value of v bytes from place a on, within s
unfoldable pub bounds_in : ℕ → ℕ → ℕ → ℕ → Bool → List ℕ → Reading Bounds
bounds_in at tag a v run s =
    unless (ltb (length s) (a + v)) (fault_at ends_too_soon (at + length s)) (got (record { tag = tag; from = a; to = a + v; nested = run }))

unfoldable pub within : ℕ → ℕ → ℕ → ℕ → Bool → List ℕ → Result Bounds Refusal
within at tag a v run s = as_bounds (bounds_in at tag a v run s)

-- where the parts of an object lie, by its head
unfoldable pub bounds_of : List ℕ → Head → Bounds
bounds_of s h = record { tag = h.tag; from = from h; to = to h; nested = nested (get_or s 0 0) }

unfoldable pub head_answer : ℕ → List ℕ → Result Bounds Refusal
head_answer at s = as_bounds (and_then (head_of at s) λ h. got (bounds_of s h))

-- how many bytes fewer the shortest writing takes
unfoldable pub spare_obj : Obj → ℕ
spare_obj o = length (obj_bytes o) - length (obj_bytes (short_obj o))

unfoldable pub spare_run : Objs → ℕ
spare_run os = length (run_bytes os) - length (run_bytes (short_run os))

-- an object or a container whose value takes so many bytes fewer
unfoldable pub tally_of : Bounds → ℕ → ℕ → Tally
tally_of b objects saved =
    let v = b.to - b.from - saved in
    record { size = b.to; objects = objects; spare = b.to - (b.tag + form_size (form_for v) + v) }

unfoldable pub one_tally : OneRead → Tally
one_tally o = record { size = o.size; objects = o.count; spare = spare_obj o.obj }

unfoldable pub run_tally : List ℕ → RunRead → Tally
run_tally s r = record { size = length s; objects = r.count; spare = spare_run r.objs }

unfoldable pub one_answer : ℕ → ℕ → ℕ → List ℕ → Result Tally Refusal
one_answer left n at s = as_part one_tally (one_of left n at s)

unfoldable pub run_answer : ℕ → ℕ → ℕ → List ℕ → Result Tally Refusal
run_answer left n at s = as_part (run_tally s) (run_of left n at s)
