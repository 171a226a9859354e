-- The lister: what it prints for an input is the text that the rules say, whole. Assumes nothing.
use mathlib.Core.Path.{◌≡◌}
use mathlib.Core.Logic.{◌↔◌}
use mathlib.Core.List.{List}
use Prim.Native.Nat.{ℕ, ◌*◌, ◌≤◌}
use lib.ListN.{length, take}
use lib.Seq.{take-append_seam}
use Rattle.basics.specs.believed.Lists.{Bytes}
use Rattle.zvt_rules.specs.Listing.{listing}
use Rattle.zvt_rules.specs.believed.Listing.{Listing}
use Rattle.zvt_rules.proofs.Listing as rules
use Rattle.listing.proofs as code

-- M16 to M19: the definition's text is the listing of an input, in the words of the rules, and no other text is.
pub listing-exactly : (s t : List ℕ) → Bytes s → Listing s t ↔ (t ≡ listing s)
listing-exactly = rules.listing-exactly

-- No listing is longer than seven bytes for each byte of the longest input.
pub listing-long : (s : List ℕ) → Bytes s → length (listing s) ≤ 65536 * 7
listing-long = rules.listing-long

-- `list`, in a buffer of that size, leaves the listing of its input at the start of the buffer, up to the place that it answers: nothing
-- is cut off.
pub listed-whole : (κs : _) (a : _) (r : ℕ) (e : _) → code.list.Reads.Learnt κs a r e → Bytes a.0.now → 65536 * 7 ≤ length a.1.0.now
    → Listing a.0.now (take r e.1.0.now)
listed-whole κs a r e k b h =
    let (end, exit) = k.1.0 h in
    (rules.listing-exactly a.0.now _ b).1 (rw (end, exit) (take-append_seam (listing a.0.now) _))
