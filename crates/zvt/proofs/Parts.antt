-- What is known of a part of a message, and where a refusal in it is placed. Assumes nothing.
use Rattle.std.proofs.Common.{◌≡◌, ℕ, ◌+◌, add-zero, List, ap, ◌∙◌}
use Rattle.basics.specs.believed.Lists.{Bytes}
use Rattle.zvt_rules.specs.declared.Refusal.{Refusal}
use Rattle.zvt_rules.specs.Reading.{fault_at}
use Rattle.zvt.specs.declared.part.Part.{Part}

pub part-bytes : (p : Part) → Bytes p.bytes.now
unfolding Bytes
part-bytes p = p.are_bytes

-- what was answered of a part of it, in terms of the whole
pub of-part : {A : Type 0} {at b : ℕ} {s t : List ℕ} {x : A} (f : ℕ → List ℕ → A)
    → record { at : b ≡ at; bytes : t ≡ s } → x ≡ f b t → f at s ≡ x
of-part f e h = let i = e.at in let j = e.bytes in cc

-- a refusal at the first byte
pub at-start : {number at : ℕ} {r : Refusal} → r ≡ fault_at number (at + 0) → r ≡ fault_at number at
at-start {number} {at} e = e ∙ ap (fault_at number) (add-zero at)
