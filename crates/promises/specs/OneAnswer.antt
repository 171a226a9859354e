-- Every public function states one answer and one content of lent memory for each input, refusals too: what one answer and one content
-- are. Definitions only.
use Rattle.std.specs.Prelude.{◌≡◌, ℕ, List}
use Rattle.std.specs.Borrow.{Bor, MutBor}

-- that it admits only one answer: a statement of the answer and of what was lent, at exit; any two answers that it admits are the
-- same, and any two contents
pub record Only {A E X Y : Type 0} (answer : A → X) (lent : E → Y) (states : A → E → Type 0) : Type 0 where
  pub one : (r r' : A) (e e' : E) → states r e → states r' e' → (answer r ≡ answer r') × (lent e ≡ lent e')

-- the answer itself; of a part of a slice, where it lies and its bytes
abbrev pub itself : {A : Type 0} → A → A
itself r = r

abbrev pub placed : Bor (List ℕ) → (ℕ × ℕ) × List ℕ
placed r = (r.ref_ptr, r.now)

-- no memory is lent, or only to be read
abbrev pub nothing : {E : Type 0} → E → Unit {0}
nothing e = tt

-- where two buffers are lent, the one content is the pair of them
abbrev pub contents : MutBor (List ℕ) → MutBor (List ℕ) → List ℕ × List ℕ
contents out room = (out.now, room.now)
