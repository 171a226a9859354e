-- Steps of the code, private: what the readers of fields answer, by the definitions of crate zvt_rules. Definitions only.
use Rattle.std.specs.Prelude.{ℕ, ◌+◌, ◌-◌, Bool, true, false, List, [], ◌∷◌, length, get_or, drop, eqb, Err, Ok, Result, Option, Some}
use Rattle.zvt_rules.specs.declared.Refusal.{Refusal}
use Rattle.zvt_rules.specs.declared.Format.{Format}
use Rattle.zvt_rules.specs.declared.Format.TheVariants.{Unknown, Fixed, Digits, Container}
use Rattle.zvt_rules.specs.declared.Listed.{Listed}
use Rattle.zvt_rules.specs.declared.Span.{Span}
use Rattle.basics.specs.Choice.{pick}
use Rattle.basics.specs.Lists.{part}
use Rattle.zvt_rules.specs.Reading.{Reading, got, refused, fault_at, unless, and_then}
use Rattle.zvt_rules.specs.Refusals.{unknown_field, field_twice}
use Rattle.zvt_rules.specs.Objects.{form_size, len_of}
use Rattle.zvt_rules.specs.Fields.{format_of, unknown, digits_of, unless_undecimal, digits_in, Field, plain, FieldRead, ListRead, field_by, list_of}
use Rattle.zvt_rules.specs.believed.Writing.{field_bytes, list_bytes, field_value}
use Rattle.zvt_rules.specs.Listed.{listed_from, named_listed}
use Rattle.zvt_rules.specs.Shortest.{short_field, short_list}
use Rattle.zvt.specs.declared.objects.Bounds.{Bounds}
use Rattle.zvt.specs.declared.objects.Tally.{Tally}
use Rattle.zvt.specs.declared.objects.Located.{Located}
use Rattle.zvt.specs.ObjectSteps.{as_bounds, as_part, located, bounds_in}

unfoldable pub as_digits : Reading ℕ → Result ℕ Refusal
as_digits (got v) = Ok v
as_digits (refused r) = Err r

unfoldable pub digits_answer : ℕ → ℕ → List ℕ → Result ℕ Refusal
digits_answer d at s = as_digits (digits_of d 0 at s)

unfoldable pub as_decimals : Reading (List ℕ) → Result (Unit {0}) Refusal
as_decimals (got s) = Ok tt
as_decimals (refused r) = Err r

unfoldable pub decimals_answer : ℕ → List ℕ → Result (Unit {0}) Refusal
decimals_answer at s = as_decimals (unless_undecimal at s (got s))

-- where the parts of a field lie, by the format of its id
unfoldable pub bounds_by : ℕ → List ℕ → Format → Reading Bounds
bounds_by at s Unknown = refused (fault_at unknown_field at)
bounds_by at s (Fixed k) = bounds_in at 1 1 k false s
bounds_by at s (Digits d) = and_then (digits_of d 0 (at + 1) (drop 1 s)) λ v. bounds_in at 1 (1 + d) v false s
bounds_by at s Container = and_then (len_of (at + 1) (drop 1 s)) λ l. bounds_in at 1 (1 + form_size l.form) l.value true s

unfoldable pub field_bounds : ℕ → List ℕ → Result Bounds Refusal
field_bounds at s = as_bounds (bounds_by at s (format_of (get_or s 0 0)))

-- how many bytes fewer the shortest writing takes
unfoldable pub spare_field : Field → ℕ
spare_field f = length (field_bytes f) - length (field_bytes (short_field f))

unfoldable pub spare_list : List Field → ℕ
spare_list fs = length (list_bytes fs) - length (list_bytes (short_list fs))

unfoldable pub field_tally : FieldRead → Tally
field_tally o = record { size = o.size; objects = o.count; spare = spare_field o.field }

unfoldable pub list_tally : List ℕ → ListRead → Tally
list_tally s r = record { size = length s; objects = r.count; spare = spare_list r.fields }

-- the field of plain bytes that lie there
unfoldable pub plain_answer : ℕ → ℕ → Bounds → List ℕ → Result Tally Refusal
plain_answer n at b s =
    let value = part b.from b.to s in
    as_part field_tally (digits_in (get_or s 0 0) (at + b.from) value (got (record { field = plain (get_or s 0 0) value; size = b.to; count = n })))

-- the field that s begins with, whose id stood before or did not
unfoldable pub field_when : Bool → ℕ → ℕ → List ℕ → Reading FieldRead
field_when twice n at s =
    let id = get_or s 0 0 in
    unless (unknown (format_of id)) (fault_at unknown_field at) (unless twice (fault_at field_twice at) (field_by id n at s (format_of id)))

unfoldable pub field_part : Bool → ℕ → ℕ → List ℕ → Result Tally Refusal
field_part twice n at s = as_part field_tally (field_when twice n at s)

-- where the value of a field that is read begins
unfoldable pub value_begins : FieldRead → ℕ
value_begins o = o.size - length (field_value o.field)

unfoldable pub field_located : Bool → ℕ → ℕ → List ℕ → Result (Located ℕ) Refusal
field_located twice n at s = located field_tally value_begins (field_when twice n at s)

unfoldable pub list_answer : ℕ → List ℕ → Result Tally Refusal
list_answer at s = as_part (list_tally s) (list_of [] 0 at s)

-- where a field lies that has the id, else what was noted before
unfoldable pub noted : ℕ → Listed → Option Span → Option Span
noted id l x = pick (eqb l.id id) (Some (record { from = l.from; to = l.to })) x

unfoldable pub noted_all : List ℕ → Listed → List (Option Span) → List (Option Span)
noted_all [] l xs = []
noted_all (id ∷ ids) l [] = []
noted_all (id ∷ ids) l (x ∷ xs) = noted id l x ∷ noted_all ids l xs

-- where the fields with those ids lie in a list that is read
unfoldable pub spans_in : List Listed → List ℕ → List (Option Span)
spans_in ls [] = []
spans_in ls (id ∷ ids) = named_listed id ls ∷ spans_in ls ids

unfoldable pub list_located : List ℕ → ℕ → List ℕ → Result (Located (List (Option Span))) Refusal
list_located ids at s = located (list_tally s) (λ r. spans_in (listed_from at r.fields) ids) (list_of [] 0 at s)
