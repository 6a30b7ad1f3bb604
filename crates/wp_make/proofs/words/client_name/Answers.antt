use Rattle.std.proofs.Common.{◌≡◌, ℕ, true, List, subst, sym, ◌∙◌, lit<}
use Rattle.wp_model.specs.Word.{is_word}
use Rattle.wp_make.specs.Generator.{client_word}
use Rattle.wp_make.proofs.WordLemmas.{client_fits}
use Rattle.wp_make.proofs.words.client_name.Goals as goal

pub word-requires : goal.word-requires
word-requires c =
    let is : c.as_bytes.result.now ≡ client_word c.args.client = c.as_bytes.ensures.value ∙ c.in_ok-text.ensures.ok in
    (lit< tt, subst (λ (bytes : List ℕ). is_word 32 bytes ≡ true) (sym is) (client_fits c.args.client c.ranges.client.fits))
