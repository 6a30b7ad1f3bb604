use Rattle.std.proofs.lemmas.Grind.{common_steps}
use Rattle.std.proofs.Common.{◌≡◌, ℕ, ◌+◌, ◌<◌, ◌&&◌, true, List, [], ◌∷◌, ◌++◌, length, get_or, take, ap, sym, subst, ◌∙◌, append_assoc, arith}
use Rattle.std.specs.List.{flat_map, list_all}
use Rattle.std.proofs.lemmas.List.{take_more, append-nil}
use Rattle.std.proofs.lemmas.List.Concat.{flat_map-append, flat_map-cons}
use Rattle.std.proofs.lemmas.List.Folds.{list_all_more}
use Rattle.wp_model.specs.declared.change.Change.{Change}
use Rattle.wp_encoding.specs.Encoding.{change_bytes, is_change}
use Rattle.wp_encoding.proofs.writing.push_batch.Goals as goal

bytes_push : (changes : List Change) (change : Change) → flat_map change_bytes (changes ++ change ∷ []) ≡ flat_map change_bytes changes ++ change_bytes change
bytes_push changes change = flat_map-append change_bytes changes (change ∷ []) ∙ ap (λ (bytes : List ℕ). flat_map change_bytes changes ++ bytes) (flat_map-cons change_bytes change [] ∙ append-nil (change_bytes change))

bytes_more : (changes : List Change) (i : ℕ) (change : Change) → i < length changes → change ≡ get_or changes i change → flat_map change_bytes (take (i + 1) changes) ≡ flat_map change_bytes (take i changes) ++ change_bytes change
bytes_more changes i change lt is = rw (take_more changes i change lt, ← is) (bytes_push (take i changes) change)

pushed_more : (start now out : List ℕ) (changes : List Change) (i : ℕ) (change : Change) → i < length changes → change ≡ get_or changes i change → now ≡ start ++ length changes ∷ flat_map change_bytes (take i changes)
    → out ≡ now ++ change_bytes change → out ≡ start ++ length changes ∷ flat_map change_bytes (take (i + 1) changes)
pushed_more start now out changes i change lt is before more =
    more ∙ ap (λ (bytes : List ℕ). bytes ++ change_bytes change) before ∙ append_assoc start (length changes ∷ flat_map change_bytes (take i changes)) (change_bytes change)
    ∙ ap (λ (bytes : List ℕ). start ++ length changes ∷ bytes) (sym (bytes_more changes i change lt is))

in_range_more : (changes : List Change) (i : ℕ) (change : Change) → i < length changes → change ≡ get_or changes i change → list_all is_change (take i changes) ≡ true → is_change change ≡ true
    → list_all is_change (take (i + 1) changes) ≡ true
in_range_more changes i change lt is before one =
    let this = subst (λ (c : Change). is_change c ≡ true) is one in
    list_all_more is_change changes i change lt ∙ (λ j. before j && this j)

pub loop-change-preserved : goal.loop-change-preserved
loop-change-preserved c = record {
  pushed = pushed_more c.args.out.now.items c.loop-change.out.items c.push_change.new.out.items c.changes-changes.result.now c.loop-change.change-index c.change-item.result c.loop-change-test.true c.change-item.is c.loop-change.invariant.pushed c.in_ok-push_change.ensures.pushed;
  in_range = in_range_more c.changes-changes.result.now c.loop-change.change-index c.change-item.result c.loop-change-test.true c.change-item.is c.loop-change.invariant.in_range c.in_ok-push_change.ensures.in_range;
}

pub returns-clause-pushed : goal.returns-clause-pushed
returns-clause-pushed c = grind (arith, common_steps)

pub returns-clause-in_range : goal.returns-clause-in_range
returns-clause-in_range c = grind (arith, common_steps)
