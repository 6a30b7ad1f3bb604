use Rattle.std.proofs.Common.{◌≡◌, ℕ, true, List, IfOk, subst, sym, ◌∙◌, lit<}
use Rattle.wp_model.specs.Word.{is_word}
use Rattle.wp_make.specs.Generator.{txn_word}
use Rattle.wp_make.proofs.WordLemmas.{txn_fits, written}
use Rattle.wp_make.proofs.words.txn_name.Goals as goal

pub word-requires : goal.word-requires
word-requires c =
    let is : c.as_bytes.result.now ≡ txn_word c.args.client c.args.begins = written 99 116 c.args.client c.args.begins c.as_bytes.result.now (c.as_bytes.ensures.value ∙ c.in_ok-text.ensures.ok) in
    (lit< tt, subst (λ (bytes : List ℕ). is_word 32 bytes ≡ true) (sym is) (txn_fits c.args.client c.args.begins c.ranges.client.fits c.ranges.begins.fits))

pub returns : goal.returns
returns c =
    let is : c.as_bytes.result.now ≡ txn_word c.args.client c.args.begins = written 99 116 c.args.client c.args.begins c.as_bytes.result.now (c.as_bytes.ensures.value ∙ c.in_ok-text.ensures.ok) in
    subst (λ (bytes : List ℕ). IfOk c.word.result (λ word. word ≡ bytes)) is c.word.ensures
