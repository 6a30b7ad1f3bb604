use Rattle.std.proofs.Common.{◌||◌, sym, ap, ◌∙◌, rules}
use Rattle.std.specs.List.{list_any}
use Rattle.wp_memtable.specs.Bounds.{is_between}
use Rattle.wp_memtable.specs.Memtable.{versions_in}
use Rattle.wp_memtable.proofs.Between.{none_between}
use Rattle.wp_memtable.proofs.Listed.{any-versions_in}
use Rattle.wp_memtable.proofs.memtable.Memtable.has_between.Goals as goal

pub returns-then-not-may_have : goal.returns-then-not-may_have
returns-then-not-may_have c =
    sym (none_between c.args.bounds c.self.inside.least c.self.inside.greatest _ c.self.invariant.2 (c.may_have.ensures (search rules))) ∙ ap (list_any (λ v. is_between c.args.bounds v.number)) c.self.view_is

pub returns-then-has_between : goal.returns-then-has_between
returns-then-has_between c =
    let step = ap (λ es. list_any (λ v. is_between c.args.bounds v.number) (versions_in es)) c.in-Some.ensures.steps ∙ any-versions_in (is_between c.args.bounds) (c.in-Some.field-0-0.now, c.in-Some.versions.now) c.next.new.self in
    let here = sym c.has_between.ensures ∙ c.if-has_between.true in
    sym (sym c.loop-versions.invariant ∙ step ∙ ap (λ b. b || list_any (λ v. is_between c.args.bounds v.number) (versions_in c.next.new.self)) here)

pub loop-versions-preserved : goal.loop-versions-preserved
loop-versions-preserved c =
    let step = ap (λ es. list_any (λ v. is_between c.args.bounds v.number) (versions_in es)) c.in-Some.ensures.steps ∙ any-versions_in (is_between c.args.bounds) (c.in-Some.field-0-0.now, c.in-Some.versions.now) c.next.new.self in
    let none = sym c.has_between.ensures ∙ c.if-has_between.false in
    sym (step ∙ ap (λ b. b || list_any (λ v. is_between c.args.bounds v.number) (versions_in c.next.new.self)) none) ∙ c.loop-versions.invariant
