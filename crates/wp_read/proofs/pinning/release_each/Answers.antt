use Rattle.std.proofs.Common.{◌≡◌, ℕ, ◌+◌, ◌-◌, ◌<◌, length, get_or, take, sym, subst, ap, ◌∙◌, arith}
use Rattle.wp_model.specs.Snapshots.{Snapshots, IsLive, after_release}
use Rattle.wp_core.specs.Changes.{with_released}
use Rattle.wp_read.specs.Registers.{with_each}
use Rattle.wp_read.proofs.Counts.{each_live, each_back}
use Rattle.wp_read.proofs.Registers.{changes_placed}
use Rattle.wp_read.proofs.pinning.release_each.Goals as goal

pub release-requires : goal.release-requires
release-requires c =
    let numbers = c.args.numbers.now in let m = c.requires.0 in let k = c.loop-left.invariant in
    let i : ℕ = c.loop-left.left - 1 in
    let next : i + 1 ≡ c.loop-left.left = omega arith in
    let within : i < length numbers = (let w = k.within in omega arith) in
    subst (λ (x : Snapshots). IsLive x (get_or numbers i 0)) (sym (k.released m c.requires.1 c.requires.2 ∙ ap (λ (n : ℕ). with_each m (take n numbers)) (sym next))) (each_live m numbers i within)

pub loop-left-preserved : goal.loop-left-preserved
loop-left-preserved c =
    let numbers = c.args.numbers.now in let k = c.loop-left.invariant in
    let i : ℕ = c.loop-left.left - 1 in
    let next : i + 1 ≡ c.loop-left.left = omega arith in
    let within : i < length numbers = (let w = k.within in omega arith) in
    record {
      within = (let w = k.within in omega arith);
      released = λ m counted is.
          changes_placed c.loop-left.snaps c.release.new.self (get_or numbers i 0) after_release c.release.ensures
          ∙ (ap (λ (x : Snapshots). with_released x (get_or numbers i 0)) (k.released m counted is ∙ ap (λ (n : ℕ). with_each m (take n numbers)) (sym next)) ∙ each_back m numbers i within counted);
    }
