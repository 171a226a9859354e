-- What a call that is not refused does to its lane, by cases on the calls. Assumes nothing.
use mathlib.Core.Path.{◌≡◌, refl, ap, ap₂, sym, ◌∙◌}
use mathlib.Core.Bool.{Bool, true, false, ◌&&◌}
use mathlib.Core.List.{List, [], ◌∷◌}
use Prim.Native.Nat.{ℕ, ◌-◌, ◌+◌, ◌*◌, ◌≤◌, ◌<◌}
use native.Mathlib.Omega.{arith}
use lib.Dec.{eqb}
use borrow.Author.Tests.{eqb-true, ne_eqb}
use Rattle.std.proofs.Common.{Err, None, Ok, Option, Result, Some}
use Rattle.basics.specs.Lists.{part, among}
use Rattle.zvt_rules.specs.Reading.{Reading, got, refused, and_then}
use Rattle.zvt_rules.specs.Message.{Heading, header_size, whole_header, bytes, Message, read_of, message_of, body_of, layout_of, start, end}
use Rattle.zvt_rules.specs.Values.{is_status, status_of, status_in, status_fields, code_in, code_of, value_in}
use Rattle.zvt_rules.specs.declared.Refusal.{Refusal}
use Rattle.zvt_rules.specs.declared.Status.{Status}
use Rattle.zvt_rules.specs.Heard.{first_byte, told_in}
use Rattle.zvt_rules.proofs.Readings.{then-on, then-got, got_same}
use Rattle.basics.proofs.Tests.{pick-test, never}
use Rattle.desk_rules.specs.declared.Kind.{Kind}
use Rattle.desk_rules.specs.declared.Kind.TheVariants.{Sale, Refund, Reversal}
use Rattle.desk_rules.specs.declared.Outcome.TheVariants.{Declined}
use Rattle.desk_rules.specs.declared.Phase.{Phase}
use Rattle.desk_rules.specs.declared.Phase.TheVariants.{Running}
use Rattle.desk_rules.specs.declared.Lane.{Lane}
use Rattle.desk_rules.specs.declared.Line.{Line}
use Rattle.desk_rules.specs.declared.Moved.{Moved}
use Rattle.desk_rules.specs.declared.Moved.TheVariants.{Stays, Becomes, Ends}
use Rattle.desk_rules.specs.declared.Opening.{Opening}
use Rattle.desk_rules.specs.Kinds.{booked, is_idle}
use Rattle.desk_rules.specs.Lanes.{running_lane, reported_lane}
use Rattle.desk_rules.specs.Openings.{within_limits, refers_to, stands, opened_lane}
use Rattle.desk_rules.specs.Course.{running_pairs, pair_is, heard_waiting, completed_by, aborted_by, reported_by, moved_by, after_body, heard_running, lost_by, opened_by, Call, opening, message, lost, opens, moves}
use Rattle.desk_rules.specs.Payments.{ends_by, ends}
use Rattle.desk_rules.proofs.Heard.{heard-cases, completed-cases}
use Rattle.desk_rules.proofs.Judge.{or_else, remembered, verdict_of, verdict}

-- not refused
abbrev pub Passes : Result Moved Refusal → Type 0
Passes (Err r) = ⊥
Passes (Ok Stays) = Unit {0}
Passes (Ok (Becomes l)) = Unit {0}
Passes (Ok (Ends outcome settled code)) = Unit {0}

-- P29: an end of every kind puts its line into the book
pub every-kind : (k : Kind) → booked k ≡ true
every-kind Sale = refl
every-kind Refund = refl
every-kind Reversal = refl

-- ---- an opening finds its lane idle and makes it wait for what it asks
abbrev Opened : Lane → Opening → Line → Result Moved Refusal → Type 0
Opened l o line m = (is_idle l.phase ≡ true) × (stands (refers_to o) line ≡ true) × (m ≡ Ok (Becomes (opened_lane o line)))

pub opened : (l : Lane) (o : Opening) (line : Line) → Passes (opened_by l o line) → Opened l o line (opened_by l o line)
unfolding opened_by
opened l o line =
    pick-test P (is_idle l.phase)
    (λ e. pick-test P (within_limits o) (λ _. pick-test P (stands (refers_to o) line) (λ f _. (e, f, refl)) (λ _ h. absurd h)) (λ _ h. absurd h))
    (λ _ h. absurd h)
  where
    P : Result Moved Refusal → Type 0
    P m = Passes m → Opened l o line m

-- ---- any other call finds it open, and goes on with what it remembers or ends by its verdict

-- the lane as a payment's later calls leave it
abbrev pub retold : Lane → List ℕ → Lane
retold l s = reported_lane (running_lane l) (remembered l.status s)

-- the call is a message, which leaves the lane n
abbrev pub Heeds : Lane → Call → Lane → Type 0
Heeds l (opening i o) n = ⊥
Heeds l (message i s) n = n ≡ retold l s
Heeds l (lost i) n = ⊥

abbrev pub Later : Lane → Call → Result Moved Refusal → Type 0
Later l c (Err r) = ⊥
Later l c (Ok Stays) = Heeds l c l
Later l c (Ok (Becomes n)) = Heeds l c n
Later l c (Ok (Ends outcome settled code)) = verdict (running_lane l) c ≡ Ok (Ends outcome settled code)

-- the header's class is the message's
of-header : (s : List ℕ) (h : Heading) (m : Message) → message_of s h ≡ got m → m.class ≡ h.class
unfolding message_of
of-header s h m e =
    let t = then-got (body_of (start h) _ (layout_of h.class h.instruction)) _ m e in
    ap (λ (x : Message). x.class) (sym (got_same t.2))

pub both : (a b x y : ℕ) → pair_is a b x y ≡ true → (a ≡ x) × (b ≡ y)
both a b x y = go (eqb a x) refl (eqb b y) refl
  where
    go : (p : Bool) → eqb a x ≡ p → (q : Bool) → eqb b y ≡ q → p && q ≡ true → (a ≡ x) × (b ≡ y)
    go true e true f h = (eqb-true a x e, eqb-true b y f)
    go true e false f h = never cc
    go false e q f h = never cc

-- a number above all of a list is not among them
abbrev Under : List ℕ → ℕ → Type 0
Under [] x = Unit {0}
Under (k ∷ ks) x = (k < x) × Under ks x

above : (ks : List ℕ) (x : ℕ) → Under ks x → among ks x ≡ false
unfolding among
above [] x u = refl
above (k ∷ ks) x u = rw (ne_eqb k x (λ e. omega arith)) (above ks x u.1)

-- 80 xx and what lies above it is read as plain bytes
pub plain-read : (s : List ℕ) (h : Heading) → whole_header s ≡ got h → 0x80 ≤ h.class
    → read_of s ≡ got (record { class = h.class; instruction = h.instruction; long = h.long; body = bytes (part (start h) (end h) s) })
unfolding read_of message_of layout_of body_of and_then
plain-read s h w e =
    let pair = h.class * 256 + h.instruction in
    rw (w, and_then, above (0x0601 ∷ 0x040F ∷ 0x060F ∷ 0x06D3 ∷ []) pair (omega arith), above (0x0621 ∷ 0x0630 ∷ 0x0631 ∷ 0x0650 ∷ []) pair (omega arith))

-- and as none where its header says so
pub empty-read : (s : List ℕ) (h : Heading) → whole_header s ≡ got h → 0x80 ≤ h.class → h.size ≡ 0
    → read_of s ≡ got (record { class = h.class; instruction = h.instruction; long = h.long; body = bytes [] })
empty-read s h w e n = let none : start h + 0 - start h ≡ 0 = omega arith in plain-read s h w e ∙ rw (n, none)

running-same : (l : Lane) → l.phase ≡ Running → l ≡ running_lane l
running-same l e = ap (λ (p : Phase). record { phase = p; kind = l.kind; asked = l.asked; named = l.named; status = l.status }) e

-- refused, or an end
abbrev pub Closing : Result Moved Refusal → Type 0
Closing (Err r) = Unit {0}
Closing (Ok Stays) = ⊥
Closing (Ok (Becomes l)) = ⊥
Closing (Ok (Ends outcome settled code)) = Unit {0}

pub completed-closes : (l : Lane) (t : Option ℕ) → Closing (completed_by l t)
completed-closes l t = completed-cases Closing l (λ c. tt) (λ a e. tt) t

completed-running : (l : Lane) (t : Option ℕ) → completed_by (running_lane l) t ≡ completed_by l t
unfolding completed_by
completed-running l None = refl
completed-running l (Some c) = refl

pub aborted-closes : (start : ℕ) (t : Option ℕ) → Closing (aborted_by start t)
unfolding aborted_by
aborted-closes start None = tt
aborted-closes start (Some b) = tt

module _ (l : Lane) (i : ℕ) (s : List ℕ) where
  Goes : Result Moved Refusal → Type 0
  Goes m = Passes m → Later l (message i s) m

  refuses : (r : Refusal) → Goes (Err r)
  unfolding Goes
  refuses r h = absurd h

  stays : l ≡ retold l s → Goes (Ok Stays)
  unfolding Goes
  stays e h = e

  becomes : (n : Lane) → n ≡ retold l s → Goes (Ok (Becomes n))
  unfolding Goes
  becomes n e h = e

  closes : (m : Result Moved Refusal) → Closing m → verdict (running_lane l) (message i s) ≡ m → Goes m
  unfolding Goes
  closes (Err r) c v h = absurd h
  closes (Ok Stays) c v h = absurd c
  closes (Ok (Becomes n)) c v h = absurd c
  closes (Ok (Ends outcome settled code)) c v h = v

  -- what tells no status leaves what is remembered
  same : ((m : Message) → read_of s ≡ got m → is_status m ≡ false) → running_lane l ≡ retold l s
  unfolding remembered status_of status_fields status_in code_in value_in code_of or_else
  same n = ap (reported_lane (running_lane l)) (go (read_of s) refl)
    where
      go : (r : Reading Message) → read_of s ≡ r → l.status ≡ or_else (status_in (status_fields r)).code (status_in (status_fields r)) l.status
      go (refused f) e = refl
      go (got m) e = rw (n m e)

  waiting : (h : Heading) → whole_header s ≡ got h → Goes (heard_waiting l h)
  unfolding heard_waiting verdict verdict_of read_of
  waiting h w =
      pick-test Goes (eqb h.size 0)
      (λ _. pick-test Goes (pair_is h.class h.instruction 0x80 0x00)
      (λ e. becomes (running_lane l) (same λ m f. rw (of-header s h m (sym (then-on _ h w) ∙ f), (both h.class h.instruction 0x80 0x00 e).0)))
      (λ _. pick-test Goes (eqb h.class 0x84)
      (λ e. closes (Ok (Ends Declined 0 h.instruction)) tt (rw (plain-read s h w (omega (arith, eqb-true h.class 0x84 e)), e)))
      (λ _. refuses _)))
      (λ _. refuses _)

  reported : (st : Status) → remembered l.status s ≡ or_else st.code st l.status
      → l.phase ≡ Running → Goes (reported_by l st st.code)
  unfolding reported_by or_else
  reported st e on = go st.code e
    where
      go : (t : Option ℕ) → remembered l.status s ≡ or_else t st l.status → Goes (reported_by l st t)
      go None f = stays (running-same l on ∙ ap (reported_lane (running_lane l)) (sym f))
      go (Some c) f = becomes (reported_lane l st) (ap₂ reported_lane (running-same l on) (sym f))

  moved : (m : Message) → read_of s ≡ got m → l.phase ≡ Running → Goes (moved_by l m.class m.instruction (header_size m.long) (told_in m))
  unfolding moved_by told_in verdict verdict_of remembered status_of status_fields
  moved m r on =
      pick-test Goes (pair_is m.class m.instruction 0x06 0x0F)
      (λ e. let p = both m.class m.instruction 0x06 0x0F e in
      closes (completed_by l l.status.code) (completed-closes l _) (rw (r, p.0, p.1) (completed-running l _)))
      (λ _. pick-test Goes (pair_is m.class m.instruction 0x06 0x1E)
      (λ e. let p = both m.class m.instruction 0x06 0x1E e in closes (aborted_by (header_size m.long) (first_byte m.body)) (aborted-closes _ _) (rw (r, p.0, p.1)))
      (λ _. pick-test Goes (pair_is m.class m.instruction 0x04 0x0F)
      (λ e. reported (told_in m).status (rw (r, e)) on)
      (λ e. stays (running-same l on ∙ same λ k f. rw (got_same (sym f ∙ r)) e))))

  running : (h : Heading) → l.phase ≡ Running → Goes (heard_running l s h)
  unfolding heard_running after_body
  running h on =
      pick-test Goes (among running_pairs (h.class * 256 + h.instruction))
      (λ _. go (read_of s) refl) (λ _. refuses _)
    where
      go : (r : Reading Message) → read_of s ≡ r → Goes (after_body l r)
      go (refused f) e = refuses _
      go (got m) e = moved m e on

not-idle : {p q : Phase} → p ≡ q → is_idle q ≡ false → is_idle p ≡ false
not-idle e n = rw e n

pub later : (l : Lane) (ls : List Line) (c : Call) → opens c ≡ false → Passes (moves l ls c) → (is_idle l.phase ≡ false) × Later l c (moves l ls c)
unfolding opens moves lost_by verdict Goes
later l ls (opening i o) e = never cc
later l ls (message i s) e =
    heard-cases (λ m. Passes m → (is_idle l.phase ≡ false) × Later l (message i s) m) l s (λ r h. absurd h)
    (λ x w p h. (not-idle p refl, waiting l i s x w h))
    (λ x w p h. (not-idle p refl, running l i s x p h))
later l ls (lost i) e = pick-test (λ m. Passes m → (is_idle l.phase ≡ false) × Later l (lost i) m)
    (is_idle l.phase) (λ _ h. absurd h) (λ o _. (o, refl))

-- ---- whether a call ends its payment can be seen from the call alone

unfoldable pub ends_in : Result Moved Refusal → Bool
ends_in (Err r) = false
ends_in (Ok Stays) = false
ends_in (Ok (Becomes l)) = false
ends_in (Ok (Ends outcome settled code)) = true

closing-ends : (m : Result Moved Refusal) → Closing m → Passes m → ends_in m ≡ true
unfolding ends_in
closing-ends (Err r) c p = absurd p
closing-ends (Ok Stays) c p = absurd c
closing-ends (Ok (Becomes l)) c p = absurd c
closing-ends (Ok (Ends outcome settled code)) c p = refl

reported-open : (l : Lane) (st : Status) (t : Option ℕ) → ends_in (reported_by l st t) ≡ false
unfolding ends_in reported_by
reported-open l st None = refl
reported-open l st (Some c) = refl

module _ (l : Lane) (s : List ℕ) where
  Right : Result Moved Refusal → Type 0
  Right m = Passes m → ends_in m ≡ ends_by (read_of s)

  refused-right : (r : Refusal) → Right (Err r)
  unfolding Right
  refused-right r p = absurd p

  open-right : (m : Result Moved Refusal) → ends_in m ≡ false → ends_by (read_of s) ≡ false → Right m
  unfolding Right
  open-right m e f p = e ∙ sym f

  end-right : (m : Result Moved Refusal) → Closing m → ends_by (read_of s) ≡ true → Right m
  unfolding Right
  end-right m c f p = closing-ends m c p ∙ sym f

  waiting-ends : (h : Heading) → whole_header s ≡ got h → Right (heard_waiting l h)
  unfolding heard_waiting ends_in ends_by read_of
  waiting-ends h w =
      pick-test Right (eqb h.size 0)
      (λ _. pick-test Right (pair_is h.class h.instruction 0x80 0x00)
      (λ e. open-right _ refl (go (read_of s) refl (both h.class h.instruction 0x80 0x00 e).0))
      (λ _. pick-test Right (eqb h.class 0x84)
      (λ e. end-right (Ok (Ends Declined 0 h.instruction)) tt (ap ends_by (plain-read s h w (omega (arith, eqb-true h.class 0x84 e))) ∙ rw e))
      (λ _. refused-right _)))
      (λ _. refused-right _)
    where
      go : (r : Reading Message) → read_of s ≡ r → h.class ≡ 0x80 → ends_by r ≡ false
      go (refused f) e c = refl
      go (got m) e c = rw (of-header s h m (sym (then-on _ h w) ∙ e), c)

  moved_ends : (m : Message) → read_of s ≡ got m → eqb m.class 0x84 ≡ false → Right (moved_by l m.class m.instruction (header_size m.long) (told_in m))
  unfolding moved_by ends_in ends_by
  moved_ends m r n =
      pick-test Right (pair_is m.class m.instruction 0x06 0x0F)
      (λ e. let q = both m.class m.instruction 0x06 0x0F e in end-right _ (completed-closes l _) (ap ends_by r ∙ rw (q.0, q.1)))
      (λ a. pick-test Right (pair_is m.class m.instruction 0x06 0x1E)
      (λ e. let q = both m.class m.instruction 0x06 0x1E e in end-right _ (aborted-closes _ _) (ap ends_by r ∙ rw (q.0, q.1)))
      (λ b. pick-test Right (pair_is m.class m.instruction 0x04 0x0F)
      (λ e. let q = both m.class m.instruction 0x04 0x0F e in open-right _ (reported-open l _ _) (ap ends_by r ∙ rw q.0))
      (λ _. open-right (Ok Stays) refl (ap ends_by r ∙ rw (n, b, a)))))

  running-ends : (h : Heading) → whole_header s ≡ got h → Right (heard_running l s h)
  unfolding heard_running after_body read_of
  running-ends h w =
      pick-test Right (among running_pairs (h.class * 256 + h.instruction))
      (λ t. go (read_of s) refl t) (λ _. refused-right _)
    where
      -- none of the six begins with 84
      not-84 : among running_pairs (h.class * 256 + h.instruction) ≡ true → h.class ≡ 0x84 → ⊥
      not-84 t c =
          let u = above running_pairs (h.class * 256 + h.instruction) (omega arith) in
          never cc

      go : (r : Reading Message) → read_of s ≡ r
          → among running_pairs (h.class * 256 + h.instruction) ≡ true → Right (after_body l r)
      go (refused f) e t = refused-right _
      go (got m) e t = moved_ends m e (rw (of-header s h m (sym (then-on _ h w) ∙ e)) (ne_eqb h.class 0x84 (not-84 t)))

pub ends_same : (l : Lane) (ls : List Line) (c : Call) → Passes (moves l ls c) → ends_in (moves l ls c) ≡ ends c
unfolding moves ends ends_in lost_by Right
ends_same l ls (opening i o) = λ h. rw (opened l o _ h).2
ends_same l ls (message i s) =
    heard-cases (Right l s) l s (refused-right l s) (λ h w _. waiting-ends l s h w) (λ h w _. running-ends l s h w)
ends_same l ls (lost i) = pick-test (λ m. Passes m → ends_in m ≡ true) (is_idle l.phase) (λ _ h. absurd h) (λ _ _. refl)
