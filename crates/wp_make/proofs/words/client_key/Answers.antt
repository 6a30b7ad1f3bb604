use Rattle.std.proofs.Common.{◌≡◌, ℕ, true, List, IfOk, subst, sym, ◌∙◌, lit<}
use Rattle.wp_model.specs.Word.{is_word}
use Rattle.wp_make.specs.Generator.{key_word}
use Rattle.wp_make.proofs.WordLemmas.{key_fits, written}
use Rattle.wp_make.proofs.words.client_key.Goals as goal

pub word-requires : goal.word-requires
word-requires c =
    let is : c.as_bytes.result.now ≡ key_word c.args.client c.args.key = written 99 107 c.args.client c.args.key c.as_bytes.result.now (c.as_bytes.ensures.value ∙ c.in_ok-text.ensures.ok) in
    (lit< tt, subst (λ (bytes : List ℕ). is_word 64 bytes ≡ true) (sym is) (key_fits c.args.client c.args.key c.ranges.client.fits c.ranges.key.fits))

pub returns : goal.returns
returns c =
    let is : c.as_bytes.result.now ≡ key_word c.args.client c.args.key = written 99 107 c.args.client c.args.key c.as_bytes.result.now (c.as_bytes.ensures.value ∙ c.in_ok-text.ensures.ok) in
    subst (λ (bytes : List ℕ). IfOk c.word.result (λ word. word ≡ bytes)) is c.word.ensures
