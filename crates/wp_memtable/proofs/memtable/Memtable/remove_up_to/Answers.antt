use Rattle.std.proofs.Common.{rules, length, ap, subst, sym, ◌∙◌, nat_lt, arith}
use Rattle.wp_memtable.specs.Memtable.{above, versions_in}
use Rattle.wp_memtable.specs.Bounds.{AreWithin}
use Rattle.wp_memtable.proofs.Between.{none_up_to, within_filter}
use Rattle.wp_memtable.proofs.Listed.{retained, length-staying}
use Rattle.wp_memtable.proofs.memtable.Memtable.remove_up_to.Goals as goal

pub count_of-self-inside-requires : goal.count_of-self-inside-requires
count_of-self-inside-requires c =
    let all = retained (nat_lt c.args.n) _ _ (λ k v b w f' t. search rules) _ _ c.retain.ensures.filtered in
    omega (arith, ap length all.versions, length-staying (nat_lt c.args.n) (versions_in c.self.inside.places.entries), c.self.invariant.1)

pub invariant_of-self : goal.invariant_of-self
invariant_of-self c =
    let all = retained (nat_lt c.args.n) _ _ (λ k v b w f' t. search rules) _ _ c.retain.ensures.filtered in
    (record { keys = c.retain.ensures.ordered; words = all.words c.self.invariant.0.words; newest_first = all.newest_first }, c.count_of-self-inside.ensures, subst (AreWithin c.self.inside.least c.self.inside.greatest) (sym all.versions) (within_filter _ _ (nat_lt c.args.n) _ c.self.invariant.2))

pub returns : goal.returns
returns c =
    let all = retained (nat_lt c.args.n) _ _ (λ k v b w f' t. search rules) _ _ c.retain.ensures.filtered in
    all.versions ∙ ap (above c.args.n) c.self.view_is

pub returns-then-n-self : goal.returns-then-n-self
returns-then-n-self c = sym (ap (above c.args.n) (sym c.self.view_is) ∙ none_up_to c.self.inside.least c.self.inside.greatest c.args.n _ c.self.invariant.2 (omega (arith, c.if-n-self.true)) ∙ c.self.view_is)
