use Rattle.wp_keep.proofs.Noted.{IsNotedKey, noted_at, stay_at}
use Rattle.wp_keep.proofs.staying.staying.Goals as goal

pub loop-version-preserved : goal.loop-version-preserved
loop-version-preserved c =
    let note : IsNotedKey c.loop-version.newer c.version-item.result.key c.commit_of-commit.result c.note-newer.result = record { uncommitted = c.note-newer.ensures.uncommitted; committed = c.note-newer.ensures.committed } in
    record {
      stay = stay_at _ c.args.versions.now c.loop-version.version-index c.version-item.result c.args.snapshots.now c.args.floor _ _ _ _ _ _ c.requires c.loop-version-test.true c.version-item.is c.loop-version.invariant.noted c.commit_of-commit.ensures c.commit_above-above.ensures c.is_needed.ensures c.loop-version.invariant.stay c.in_ok-push.ensures.items;
      noted = noted_at _ c.args.versions.now c.loop-version.version-index c.version-item.result _ _ _ c.requires c.loop-version-test.true c.version-item.is c.commit_of-commit.ensures note c.loop-version.invariant.noted;
    }
