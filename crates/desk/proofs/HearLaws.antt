-- What a lane does at a message, case by case. Assumes nothing.
use mathlib.Core.Path.{◌≡◌, refl, sym, ap, ◌∙◌}
use mathlib.Core.Bool.{Bool, true, false, ◌&&◌}
use mathlib.Core.Logic.{inl, inr}
use mathlib.Core.List.{List, [], ◌∷◌}
use Prim.Native.Nat.{ℕ, ◌+◌, ◌*◌, ◌<◌}
use native.Mathlib.Omega.{arith}
use lib.Dec.{eqb}
use Rattle.std.proofs.Common.{Err, None, Ok, Result, Some}
use types.Run.{OneOf}
use borrow.Author.Tests.{eq-eqb, eqb-true, eqb-false, ne_eqb}
use Rattle.basics.proofs.Tests.{never}
use Rattle.zvt_rules.specs.declared.Refusal.{Refusal}
use Rattle.basics.specs.Choice.{pick}
use Rattle.basics.specs.Lists.{among}
use Rattle.zvt_rules.specs.Reading.{Reading, got, refused}
use Rattle.zvt_rules.specs.Message.{Heading, header_size, start, whole_header, Message, read_of}
use Rattle.zvt_rules.specs.believed.Writing.{message_bytes}
use Rattle.basics.specs.believed.Lists.{Bytes}
use Rattle.zvt_rules.proofs.MessageBytes.{read-sound}
use Rattle.zvt_rules.specs.declared.ToldBody.{ToldBody}
use Rattle.zvt_rules.specs.declared.Heard.{Heard}
use Rattle.zvt_rules.specs.Heard.{told_in, told_answer, as_hear_answer, hear_answer}
use Rattle.desk_rules.specs.declared.Phase.TheVariants.{Waiting, Running}
use Rattle.desk_rules.specs.declared.Lane.{Lane}
use Rattle.desk_rules.specs.declared.Moved.{Moved}
use Rattle.desk_rules.specs.declared.Moved.TheVariants.{Stays}
use Rattle.desk_rules.specs.Course.{no_move, running_pairs, pair_is, completed_by, aborted_by, moved_by, after_body, heard_waiting, heard_running, heard_by, after_header, heard}
use Rattle.desk_rules.proofs.Answers.{same-pair}
use Rattle.desk.specs.Hear.{header_by, said_by, waiting_moved, reported_as, moved_for, after_told, running_for, running_moved}
use Rattle.desk.specs.declared.hear.Said.{Said}
use Rattle.desk.specs.declared.hear.Said.TheVariants.{Completion, Abort, Report, Passing}

-- ---- the pairs of the course
pub none-among : (ks : List ℕ) (x : ℕ) → (OneOf ks x → ⊥) → among ks x ≡ false
unfolding among
none-among [] x n = refl
none-among (k ∷ []) x n = rw (ne_eqb k x (λ e. n (sym e)))
none-among (k ∷ (j ∷ ks)) x n = rw (ne_eqb k x (λ e. n (inl (sym e)))) (none-among (j ∷ ks) x (λ h. n (inr h)))

pub passing-said : (x : ℕ) → OneOf (0x04FF ∷ 0x06D1 ∷ 0x06D3 ∷ []) x → said_by x ≡ Some Passing
unfolding said_by among
passing-said x (inl e) = rw e
passing-said x (inr (inl e)) = rw e
passing-said x (inr (inr e)) = rw e

pub none_said : (x : ℕ) → (OneOf running_pairs x → ⊥) → said_by x ≡ None
unfolding said_by
none_said x n = rw (none-among running_pairs x n)

-- two pairs are the same exactly where their bytes are
pub pair_same : (class i c k : ℕ) → i < 256 → k < 256 → eqb (class * 256 + i) (c * 256 + k) ≡ pair_is class i c k
pair_same class i c k l m = go (eqb class c) refl (eqb i k) refl
  where
    go : (x : Bool) → eqb class c ≡ x → (y : Bool) → eqb i k ≡ y → eqb (class * 256 + i) (c * 256 + k) ≡ (x && y)
    go true e true f = eq-eqb (class * 256 + i) (c * 256 + k) (rw (eqb-true class c e, eqb-true i k f))
    go true e false f = ne_eqb (class * 256 + i) (c * 256 + k) (λ q. eqb-false i k f (omega (arith, eqb-true class c e, q)))
    go false e y f = ne_eqb (class * 256 + i) (c * 256 + k) (λ q. eqb-false class c e (omega (arith, q)))

-- ---- a message that was read

-- what the pairs of the course say, one after another
acting : Bool → Bool → Bool → Said
acting a b c = pick a Completion (pick b Abort (pick c Report Passing))

running-pick : (x : ℕ) (l : Lane) (start : ℕ) (told : Result ToldBody Refusal)
    → running_for (said_by x) l start told
    ≡ pick (among running_pairs x) (after_told (acting (eqb x 0x060F) (eqb x 0x061E) (eqb x 0x040F)) l start told) (no_move 15)
unfolding running_for said_by acting
running-pick x l start told = go (among running_pairs x) (acting (eqb x 0x060F) (eqb x 0x061E) (eqb x 0x040F))
  where
    go : (t : Bool) (said : Said) → running_for (pick t (Some said) None) l start told ≡ pick t (after_told said l start told) (no_move 15)
    go true said = refl
    go false said = refl

moved-pick : (a b c : Bool) (l : Lane) (start : ℕ) (t : ToldBody)
    → moved_for (acting a b c) l start t
    ≡ pick a (completed_by l l.status.code) (pick b (aborted_by start t.first) (pick c (reported_as l t.status) (Ok Stays)))
unfolding moved_for acting
moved-pick true b c l start t = refl
moved-pick false true c l start t = refl
moved-pick false false true l start t = refl
moved-pick false false false l start t = refl

-- the instruction of a message that was read is a byte
second-byte : (s : List ℕ) (t : Message) → Bytes s → read_of s ≡ got t → t.instruction < 256
unfolding message_bytes Bytes
second-byte s t b e = let k = (read-sound s t b e).0 in rw (← k) at (b 1)

-- what is heard of a message with that header
heard_as : Heading → List ℕ → Heard
heard_as g s = record { class = g.class; instruction = g.instruction; start = start g; length = g.size; told = told_answer (read_of s) }

-- a running lane does by what a message tells what the course says
module _ (l : Lane) (s : List ℕ) (b : Bytes s) (g : Heading) (w : whole_header s ≡ got g) where
  told_moved : (r : Reading Message) → read_of s ≡ r → let x = g.class * 256 + g.instruction in
      after_told (acting (eqb x 0x060F) (eqb x 0x061E) (eqb x 0x040F)) l (start g) (told_answer r) ≡ after_body l r
  unfolding after_told told_answer after_body moved_by reported_as
  told_moved (refused f) e = refl
  told_moved (got m) e =
      let p = same-pair s g m w e in
      let small = second-byte s m b e in
      let pair : (c k : ℕ) → k < 256 → _ = λ c k less. pair_same m.class m.instruction c k small less in
      rw (← p.0, ← p.1, ← p.2, pair 0x06 0x0F (omega arith), pair 0x06 0x1E (omega arith), pair 0x04 0x0F (omega arith))
      (moved-pick _ _ _ l (header_size m.long) (told_in m))

  told-running : running_moved l (heard_as g s) ≡ heard_running l s g
  unfolding running_moved heard_running heard_as
  told-running = running-pick _ l (start g) (told_answer (read_of s)) ∙ rw (told_moved (read_of s) refl)

-- what is heard, by the header
unheard : (hears : Heading → Result Moved Refusal) (s : List ℕ) (r : Refusal) → hear_answer s ≡ Err r → after_header hears (whole_header s) ≡ Err r
unfolding hear_answer as_hear_answer after_header
unheard hears s r e = go (whole_header s) e
  where
    go : (x : Reading Heading) → as_hear_answer (read_of s) x ≡ Err r → after_header hears x ≡ Err r
    go (got g) f = never cc
    go (refused f) g = cc

hears-header : (s : List ℕ) (h : Heard) → hear_answer s ≡ Ok h → (g : Heading) × (whole_header s ≡ got g) × (heard_as g s ≡ h)
unfolding hear_answer as_hear_answer heard_as
hears-header s h e = go (whole_header s) refl e
  where
    go : (x : Reading Heading) → whole_header s ≡ x → as_hear_answer (read_of s) x ≡ Ok h → (g : Heading) × (whole_header s ≡ got g) × (heard_as g s ≡ h)
    go (got g) f a = (g, f, cc)
    go (refused r) f a = never cc

-- a lane that is not idle, where the header is refused
module _ (l : Lane) (s : List ℕ) (r : Refusal) (e : hear_answer s ≡ Err r) where
  pub waiting-refused : l.phase ≡ Waiting → heard l s ≡ Err r
  unfolding heard heard_by
  waiting-refused p = ap (λ p. heard_by p l s) p ∙ unheard (heard_waiting l) s r e

  pub running-refused : l.phase ≡ Running → heard l s ≡ Err r
  unfolding heard heard_by
  running-refused p = ap (λ p. heard_by p l s) p ∙ unheard (heard_running l s) s r e

-- and where it is one
module _ (l : Lane) (s : List ℕ) (h : Heard) (e : hear_answer s ≡ Ok h) where
  pub heard-running : Bytes s → l.phase ≡ Running → heard l s ≡ running_moved l h
  unfolding heard heard_by after_header
  heard-running b p =
      let (g, w, same) = hears-header s h e in
      ap (λ p. heard_by p l s) p ∙ rw w (sym (told-running l s b g w) ∙ ap (running_moved l) same)

  pub heard-waiting : l.phase ≡ Waiting → heard l s ≡ waiting_moved l h
  unfolding heard heard_by after_header heard_waiting waiting_moved header_by heard_as
  heard-waiting p =
      let (g, w, same) = hears-header s h e in
      ap (λ p. heard_by p l s) p ∙ rw w (ap (waiting_moved l) same)
