use Rattle.std.proofs.Common.{◌≡◌, ℕ, suc, ◌+◌, ◌-◌, ◌<◌, ◌≤◌, List, ◌∷◌, get_or, length, drop, refl, sym, subst, ap, ◌∙◌, add-one, arith}
use Rattle.std.proofs.lemmas.List.{drop_all}
use Rattle.std.proofs.Math.Seq.{drop-cons}
use Rattle.wp_model.specs.declared.entry.Entry.{Entry}
use Rattle.wp_model.specs.Flushed.{later_versions}
use Rattle.wp_history.proofs.Full.{later_at}
use Rattle.wp_open.proofs.Later.{AreTaken, none_taken, one_taken, all_taken}
use Rattle.wp_open.proofs.memory.later_memory.Goals as goal

pub loop-n-init : goal.loop-n-init
loop-n-init c = record { from = omega arith; taken = none_taken _ _ _ _ c.new-memory.ensures refl }

pub loop-n-preserved : goal.loop-n-preserved
loop-n-preserved c =
    let entries : List Entry = c.args.history.now.entries in
    let base : ℕ = c.args.history.now.base in
    let n : ℕ = c.loop-n.n in
    let entry : Entry = c.index-later-n.result in
    let all = later_versions entries c.args.flushed in
    let so_far = c.loop-n.invariant in
    let lt : n < length entries = omega (arith, c.published-n-end.ensures.value, c.loop-n-test.true) in
    let place : base + (n - base) ≡ n = omega (arith, c.requires.from, so_far.from) in
    let here : entry ≡ get_or entries n entry = later_at entries base (n - base) c.later-later.result.now entry c.later-later.ensures.value (rw c.base-base.ensures.value at c.index-later-n.is) ∙ ap (λ (k : ℕ). get_or entries k entry) place in
    let cut : drop n entries ≡ entry ∷ drop (n + 1) entries = drop-cons entries n entry lt ∙ ap (λ (e : Entry). e ∷ drop (suc n) entries) (sym here) ∙ ap (λ (k : ℕ). entry ∷ drop k entries) (sym (add-one n)) in
    record {
      from = omega (arith, so_far.from);
      taken = one_taken n (n + 1) entry (drop (n + 1) entries) c.loop-n.memory c.insert_entry.new.memory (add-one n) c.in_ok-insert_entry.ensures so_far.taken.none_above all
          (subst (λ (es : List Entry). AreTaken all es n c.loop-n.memory) cut so_far.taken);
    }

pub returns-clause-memory : goal.returns-clause-memory
returns-clause-memory c =
    let entries : List Entry = c.args.history.now.entries in
    let le : length entries ≤ c.loop-n.n = omega (arith, c.published-n-end.ensures.value, c.loop-n-test.false) in
    all_taken (later_versions entries c.args.flushed) (drop c.loop-n.n entries) c.loop-n.n c.loop-n.memory (drop_all c.loop-n.n entries le) c.loop-n.invariant.taken
