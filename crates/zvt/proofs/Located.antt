-- What was read and where things lie in it, by what was read alone. Assumes nothing.
use Rattle.std.proofs.Common.{◌≡◌, refl, sym, ap, ◌∙◌, Ok, Err}
use Rattle.basics.proofs.Tests.{never}
use Rattle.zvt_rules.specs.declared.Refusal.{Refusal}
use Rattle.zvt_rules.specs.Reading.{Reading, got, refused}
use Rattle.zvt.specs.declared.objects.Tally.{Tally}
use Rattle.zvt.specs.declared.objects.Located.{Located}
use Rattle.zvt.specs.ObjectSteps.{as_part, located}

module _ {A T : Type 0} (tally : A → Tally) (lies : A → T) where
  -- where that lies, of all that may have been read
  abbrev pub LiesIn : Reading A → T → Type 0
  LiesIn x at = (a : A) → x ≡ got a → at ≡ lies a

  pub located-stopped : (x : Reading A) (r : Refusal) → as_part tally x ≡ Err r → located tally lies x ≡ Err r
  unfolding located as_part
  located-stopped (got a) r e = never cc
  located-stopped (refused q) r e = cc

  pub located-got : (x : Reading A) (t : Tally) (at : T) → as_part tally x ≡ Ok t → LiesIn x at → located tally lies x ≡ Ok (record { tally = t; lies = at })
  unfolding located as_part
  located-got (got a) t at e l = let same : tally a ≡ t = cc in rw (← same, l a refl)
  located-got (refused q) t at e l = never cc

  pub got-located : (x : Reading A) (r : Located T) → located tally lies x ≡ Ok r → (as_part tally x ≡ Ok r.tally) × LiesIn x r.lies
  unfolding located as_part
  got-located (got a) r e =
      let same : record { tally = tally a; lies = lies a } ≡ r = cc in (
        ap (λ (l : Located T). Ok l.tally) same,
        λ b q. let one : a ≡ b = cc in sym (ap (λ (l : Located T). l.lies) same) ∙ ap lies one,
      )
  got-located (refused q) r e = never cc

  pub stopped-located : (x : Reading A) (r : Refusal) → located tally lies x ≡ Err r → as_part tally x ≡ Err r
  unfolding located as_part
  stopped-located (got a) r e = never cc
  stopped-located (refused q) r e = cc
