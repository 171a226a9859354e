-- `zvt::objects::form_size` meets its contract. Assumes nothing.
use mathlib.Core.Path.{sym}
use Rattle.zvt.proofs.ObjectLaws.{form-bare, form-one, form-two}
use Rattle.zvt.proofs.objects.form_size.Goals as goal

pub returns-then-v-lt128 : goal.returns-then-v-lt128
returns-then-v-lt128 c = sym (form-bare _ c.if-v-lt128.true)

pub returns-then-v-lt256 : goal.returns-then-v-lt256
returns-then-v-lt256 c = sym (form-one _ c.if-v-lt128.false c.if-v-lt256.true)

pub returns : goal.returns
returns c = sym (form-two _ c.if-v-lt256.false)
