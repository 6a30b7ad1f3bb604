use Rattle.std.proofs.Common.{◌≡◌, ℕ, List, refl, ◌∙◌}
use Rattle.std.proofs.lemmas.Result.{IfOk-weaker}
use Rattle.wp_outside.specs.declared.disk.Device.{Device}
use Rattle.wp_refused.specs.declared.bad.Bad.{Bad}
use Rattle.wp_text.specs.declared.fault.Fault.{Fault}
use Rattle.wp_status.specs.declared.status.Status.{Status}
use Rattle.wp_status.specs.declared.status.Status.TheVariants as status
use Rattle.wp_status.specs.Status.{own_text, IsLine}
use Rattle.wp_status.proofs.status.Status.line.Goals as goal

text_alone : (end : Status) (line : List ℕ) → ((fault : Fault) → end ≡ status.Script fault → ⊥) → ((bad : Bad) → end ≡ status.Contents bad → ⊥) → ((device : Device) → end ≡ status.OpenFault device → ⊥) → ((device : Device) → end ≡ status.CopyFault device → ⊥)
    → ((device : Device) → end ≡ status.CopyHeld device → ⊥) → line ≡ own_text end → IsLine end line
text_alone (status.Script fault) line script contents opening copy held is = absurd (script fault refl)
text_alone (status.Contents bad) line script contents opening copy held is = absurd (contents bad refl)
text_alone (status.OpenFault failed) line script contents opening copy held is = absurd (opening failed refl)
text_alone (status.CopyFault failed) line script contents opening copy held is = absurd (copy failed refl)
text_alone (status.CopyHeld device) line script contents opening copy held is = absurd (held device refl)
text_alone end line script contents opening copy held is = is

pub returns-in_default : goal.returns-in_default
returns-in_default c =
    IfOk-weaker c.bytes_of.result _ _ (λ line is. text_alone c.args.self.now line.items c.in_default.not-Script c.in_default.not-Contents c.in_default.not-OpenFault c.in_default.not-CopyFault c.in_default.not-CopyHeld (is ∙ c.own_text-text.ensures)) c.bytes_of.ensures
