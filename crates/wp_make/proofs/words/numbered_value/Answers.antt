use Rattle.std.proofs.Common.{◌≡◌, ℕ, true, List, subst, sym, ◌∙◌, lit<}
use Rattle.wp_model.specs.Word.{is_word}
use Rattle.wp_make.specs.Generator.{value_word}
use Rattle.wp_make.proofs.WordLemmas.{value_fits}
use Rattle.wp_make.proofs.words.numbered_value.Goals as goal

pub word-requires : goal.word-requires
word-requires c =
    let is : c.as_bytes.result.now ≡ value_word c.args.value = c.as_bytes.ensures.value ∙ c.in_ok-text.ensures.ok in
    (lit< tt, subst (λ (bytes : List ℕ). is_word 256 bytes ≡ true) (sym is) (value_fits c.args.value c.ranges.value.fits))
