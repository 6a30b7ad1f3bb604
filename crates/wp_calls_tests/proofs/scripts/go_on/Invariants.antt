use Rattle.std.specs.Prelude.{◌≡◌, true, IfSome}
use Rattle.wp_core.specs.Sound.Snapshots.{has_versions_at}
use Rattle.wp_calls_tests.specs.Ready.{IsReader, IsWriter}
use Rattle.wp_calls_tests.proofs.scripts.go_on.Given as goal

-- both clients are ready
abbrev pub invariant-loop-place : goal.invariant-loop-place
invariant-loop-place g l =
    IsWriter l.store l.one l.held.begun l.held.prepared
    × IfSome l.held.made (λ p. has_versions_at l.one.knows.participant.seen p ≡ true)
    × IsReader l.store l.two l.held.snapshot l.held.version
