-- What the refusal of a message and of a call names: a place of the message where its body is refused, and else none. Assumes nothing.
use mathlib.Core.Path.{◌≡◌, refl, sym, ap, ◌∙◌, subst}
use mathlib.Core.Logic.{◌↔◌, ◌⊎◌, inl, inr, ⊎_elim}
use mathlib.Core.List.{List, [], ◌∷◌, ◌++◌}
use Prim.Native.Nat.{ℕ}
use native.Mathlib.Omega.{arith}
use Rattle.std.proofs.Common.{None}
use Rattle.basics.proofs.Tests.{never}
use Rattle.zvt_rules.specs.declared.Refusal.{Refusal}
use Rattle.zvt_rules.specs.Reading.{got, refused}
use Rattle.zvt_rules.specs.Message.{Heading, whole_header, read_of, first_of}
use Rattle.zvt_rules.specs.Answers.{shortened}
use Rattle.basics.specs.believed.Lists.{Bytes}
use Rattle.zvt_rules.specs.believed.Rows.{FramedNo, ShortNo, unread, tight}
use Rattle.zvt_rules.specs.believed.Faults.{Names, behind}
use Rattle.zvt_rules.proofs.Readings.{got-not-refused}
use Rattle.zvt_rules.proofs.RowMessages.{whole-exactly, read-no-exactly, first-no-exactly, short-no-exactly}
use Rattle.zvt_rules.proofs.Faults.{framed-names, whole-names, header-unplaced, whole-unplaced}
use Rattle.desk_rules.specs.Course.{Call, opening, message, lost, NumbersFit}
use Rattle.desk_rules.specs.Desk.{State, refuse}
use Rattle.desk_rules.specs.believed.Table.{Given, GivesNumber, Row}
use Rattle.promises.specs.Answers.{Placed}
use Rattle.promises.proofs.Answers.{refuse-same}

-- ---- a message
module _ (s : List ℕ) (b : Bytes s) (r : Refusal) where
  pub header-nowhere : whole_header s ≡ refused r → r.place ≡ None
  header-nowhere e = whole-unplaced ((whole-exactly s b r).0 e)

  pub read-placed : read_of s ≡ refused r → (r.place ≡ None) ⊎ Names s r
  read-placed e = ⊎_elim (λ h. inl (whole-unplaced h)) (λ h. inr (whole-names s r h)) ((read-no-exactly s b r).0 e)

  -- where the header is read, it is the body's
  module _ (h : Heading) (w : whole_header s ≡ got h) where
    pub body-rows : (read_of s ≡ refused r) ↔ FramedNo s [] r
    body-rows = (
      λ e. ⊎_elim (λ k. absurd (got-not-refused (sym w ∙ (whole-exactly s b r).1 k))) (λ k. k) ((read-no-exactly s b r).0 e),
      λ k. (read-no-exactly s b r).1 (inr k),
    )

    pub body-names : read_of s ≡ refused r → Names s r
    body-names e = whole-names s r (body-rows.0 e)

  -- the first of several messages: the place lies in it, or directly behind it
  pub first-placed : first_of s ≡ refused r → (r.place ≡ None) ⊎ ((front : List ℕ) × (rest : List ℕ) × (front ++ rest ≡ s) × Names front r)
  first-placed e =
      ⊎_elim (λ h. inl (header-unplaced h)) (λ (rest, h). let f = framed-names s rest r h in inr (f.0, rest, f.1, f.2))
      ((first-no-exactly s b r).0 e)

  -- shortening
  pub short-placed : (room : ℕ) → shortened room s ≡ refused r → (r.place ≡ None) ⊎ Names s r
  short-placed room e = go ((short-no-exactly s b room r).0 e)
    where
      go : {q : Refusal} → ShortNo room s q → (q.place ≡ None) ⊎ Names s q
      go (unread h) = ⊎_elim (λ k. inl (whole-unplaced k)) (λ k. inr (whole-names s _ k)) h
      go (tight w k l) = inl refl

-- ---- a call, row by row
module _ (P : Refusal → Type 0) (r : Refusal) where
  -- what holds of all that a row gives, and of what those behind it give, holds of what is given
  given_by : (Gives : Refusal → Type 0) (rows : List (Refusal → Type 0)) → ((q : Refusal) → Gives q → P q) → (Given rows (refuse r) → P r)
      → Given (Gives ∷ rows) (refuse r) → P r
  unfolding Given
  given_by Gives rows here later = ⊎_elim (λ k. subst P (sym (refuse-same k.2)) (here k.0 k.1)) (λ k. later k.1)

  none-given : Given [] (refuse r) → P r
  unfolding Given
  none-given e = never cc

-- a row whose number names no place
bare : {P : Type 0} (number : ℕ) (q : Refusal) → GivesNumber number P q → q.place ≡ None
bare number q k = ap (λ (x : Refusal). x.place) (sym k.1)

pub call-placed : (s : State) (c : Call) (room : ℕ) (r : Refusal) → NumbersFit c → Row s c room (refuse r) → Placed c r
unfolding NumbersFit
call-placed s (opening i o) room r n =
    given_by P r _ _ (bare 12) (given_by P r _ _ (bare 13) (given_by P r _ _ (bare 16) (given_by P r _ _ (bare 17)
    (given_by P r _ _ (bare 18) (given_by P r _ _ (bare 11) (none-given P r))))))
  where
    P : Refusal → Type 0
    P q = q.place ≡ None
call-placed s (message i b) room r n =
    given_by P r _ _ (λ q k. inl (bare 12 q k)) (given_by P r _ _ (λ q k. inl (bare 14 q k))
    (given_by P r _ _ (λ q k. inl (header-nowhere b n q k)) (given_by P r _ _ (λ q k. inl (bare 15 q k))
    (given_by P r _ _ (read-placed b n) (given_by P r _ _ (λ q k. inr (subst (Names b) k.1 (behind (omega arith))))
    (given_by P r _ _ (λ q k. inl (bare 11 q k)) (none-given P r)))))))
  where
    P : Refusal → Type 0
    P q = (q.place ≡ None) ⊎ Names b q
call-placed s (lost i) room r n = given_by P r _ _ (bare 12) (given_by P r _ _ (bare 14) (none-given P r))
  where
    P : Refusal → Type 0
    P q = q.place ≡ None
