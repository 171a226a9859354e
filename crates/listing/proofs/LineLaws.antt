-- Laws of the ids of a list. Assumes nothing.
use mathlib.Core.Path.{◌≡◌, refl, ◌∙◌, ap}
use mathlib.Core.List.{List, [], ◌∷◌, ◌++◌}
use Prim.Native.Nat.{ℕ, ◌+◌, ◌≤◌, ◌<◌}
use native.Mathlib.Numerals.{add-one}
use lib.ListN.{length, get_or, take, drop, drop_of_length-le}
use lib.Seq.{drop-cons, take-append_seam}
use Rattle.zvt_rules.specs.Reading.{Reading, got, refused}
use Rattle.zvt_rules.specs.Fields.{Field, field_id}
use Rattle.zvt_rules.specs.Message.{header_size, Body, bytes, listed, Message, first_of}
use Rattle.zvt_rules.specs.believed.Writing.{field_bytes}
use Rattle.zvt_rules.specs.Listed.{listed_at, listed_from, listed_body, listed_message, ids_listed, first_ids}
use Rattle.basics.specs.Text.{Text, add_all, hex_text}
use Rattle.zvt_rules.specs.Listing.{ids_text, body_ids, ids_of}
use Rattle.listing.specs.Lines.{each_text}
use Rattle.buffers.proofs.TextLaws.{add_all-append, add_all-first}

-- ---- ids, one after the other
pub each_step : (ids : List ℕ) (k : ℕ) (t : Text) → k < length ids
    → add_all (each_text (drop k ids)) t ≡ add_all (each_text (drop (k + 1) ids)) (add_all (hex_text (get_or ids k 0)) (add_all (32 ∷ []) t))
unfolding each_text
each_step ids k t h = rw (add-one, drop-cons ids k 0 h) (add_all-first 32 _ t ∙ add_all-append (hex_text (get_or ids k 0)) _ _)

pub each_none : (ids : List ℕ) (k : ℕ) (t : Text) → length ids ≤ k → add_all (each_text (drop k ids)) t ≡ t
unfolding each_text add_all
each_none ids k t h = rw (drop_of_length-le ids h)

-- ---- the ids that the reader answers are those of the message
listed-ids : (fs : List Field) (at : ℕ) → each_text (ids_listed (listed_from at fs)) ≡ ids_text fs
unfolding each_text ids_listed listed_from ids_text listed_at
listed-ids [] at = refl
listed-ids (f ∷ fs) at = ap (λ (w : List ℕ). 32 ∷ (hex_text (field_id f) ++ w)) (listed-ids fs (at + length (field_bytes f)))

message-ids : (x : Reading Message) → each_text (ids_listed (listed_message x)) ≡ ids_of x
unfolding listed_message listed_body ids_listed body_ids each_text ids_of
message-ids (got m) = go m.body
  where
    go : (b : Body) → each_text (ids_listed (listed_body (header_size m.long) b)) ≡ body_ids b
    go (bytes s) = refl
    go (listed password fs) = listed-ids fs (header_size m.long + length password)
message-ids (refused f) = refl

-- ---- the ids at the front of a buffer, n of them
module _ (s rest : List ℕ) {n : ℕ} {out : List ℕ} (size : n ≡ length (first_ids s)) (all : out ≡ first_ids s ++ rest) where
  pub ids-told : each_text (take n out) ≡ ids_of (first_of s)
  unfolding first_ids
  ids-told = rw (size, all, take-append_seam (first_ids s) rest) (message-ids (first_of s))
