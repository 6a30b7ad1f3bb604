use Rattle.std.proofs.Common.{sym, ◌∙◌, eq-eqb}
use Rattle.std.proofs.lemmas.Bool.{eqb-true}
use Rattle.wp_snaps.proofs.KeptNumbers.{no_old_commits, none_kept_of}
use Rattle.wp_snaps.proofs.Shown.{shown_of}
use Rattle.wp_snaps.proofs.snaps.Snaps.none_kept.Goals as goal

pub returns : goal.returns
returns c =
    let m = shown_of c.self.inside.live.entries in
    rw (← c.self.view_is) (
      λ zero. no_old_commits m (sym c.self.invariant ∙ eqb-true c.self.inside.kept 0 zero),
      λ none. eq-eqb c.self.inside.kept 0 (c.self.invariant ∙ none_kept_of m none),
    )
