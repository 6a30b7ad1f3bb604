use Rattle.std.proofs.Common.{[], ap, refl, ◌∙◌}
use Rattle.std.proofs.lemmas.Result.{err_from_is_err_and}
use Rattle.wp_gatelog.specs.Log.{LogState}
use Rattle.wp_manifest.specs.Edit.{Edit}
use Rattle.wp_manifest.specs.Manifest.{ManifestState, Stands}
use Rattle.wp_manifest.proofs.InstallLemmas.{passes_edits, rests_found, stores_installed, install_refused, names_there, refused_id}
use Rattle.wp_manifest.proofs.manifest.Manifest.install.Goals as goal

pub returns-in_err-append-clause-installs : goal.returns-in_err-append-clause-installs
returns-in_err-append-clause-installs g c =
    let p = err_from_is_err_and c.from_residual.result c.from_residual.ensures.1 in
    let room : Edit = c.room.inside.edit in
    let old : ManifestState = record { log = c.self.inside.log; edit = c.self.inside.edit } in
    rw (p.1, p.2, ← c.self.view_is, ← c.room.view_is) record {
      any_moment = passes_edits old c.append.new.self _ room _ c.room.invariant.spelling c.room.invariant.is c.in_err-append.ensures.appends;
      durable = λ edits next stores. (c.in_err-append.ensures.appends _ [] [] stores.records (rests_found old edits next stores)).durable;
      installed = tt;
      last = tt;
      unfailed = tt;
      running = tt;
      refused = install_refused _ old c.append.new.self _ room c.in_err-append.field-0.0 c.acknowledged_records_come_first.ensures.at_rest c.room.invariant.spelling c.room.invariant.is c.in_err-append.ensures.err c.in_err-append.ensures.appends;
      id = refused_id old.log c.append.new.self c.in_err-append.field-0.0 c.in_err-append.ensures.err;
      later = c.in_err-append.ensures.later;
    }

pub returns-clause-installs : goal.returns-clause-installs
returns-clause-installs g c =
    let room : Edit = c.room.inside.edit in
    let old : ManifestState = record { log = c.self.inside.log; edit = c.self.inside.edit } in
    rw (← c.self.view_is, ← c.room.view_is) record {
      any_moment = passes_edits old c.append.new.self _ room _ c.room.invariant.spelling c.room.invariant.is c.in_ok-append.ensures.appends;
      durable = λ edits next stores. (c.in_ok-append.ensures.appends _ [] [] stores.records (rests_found old edits next stores)).durable;
      installed = stores_installed _ old c.append.new.self _ room c.room.invariant.spelling c.room.invariant.is c.in_ok-append.ensures.ok c.in_ok-append.ensures.appends;
      last = refl;
      unfailed = ap (λ (s : LogState). s.faults) c.in_ok-append.ensures.ok.changed;
      running = (c.in_ok-append.ensures.ok.was_open, ap (λ (s : LogState). s.closed) c.in_ok-append.ensures.ok.changed ∙ c.in_ok-append.ensures.ok.was_open);
      refused = tt;
      id = ap (λ (s : LogState). s.id) c.in_ok-append.ensures.ok.changed;
      later = c.in_ok-append.ensures.later;
    }

pub returns-in_err-append-clause-joint : goal.returns-in_err-append-clause-joint
returns-in_err-append-clause-joint g c =
    let room : Edit = c.room.inside.edit in
    let old : ManifestState = record { log = c.self.inside.log; edit = c.self.inside.edit } in
    rw (← c.self.view_is, ← c.room.view_is) (λ test edits stores running last next. names_there (Stands test) old c.append.new.self.moments _ room edits stores last next (passes_edits old c.append.new.self _ room _ c.room.invariant.spelling c.room.invariant.is c.in_err-append.ensures.appends edits stores running))

pub returns-clause-joint : goal.returns-clause-joint
returns-clause-joint g c =
    let room : Edit = c.room.inside.edit in
    let old : ManifestState = record { log = c.self.inside.log; edit = c.self.inside.edit } in
    rw (← c.self.view_is, ← c.room.view_is) (λ test edits stores running last next. names_there (Stands test) old c.append.new.self.moments _ room edits stores last next (passes_edits old c.append.new.self _ room _ c.room.invariant.spelling c.room.invariant.is c.in_ok-append.ensures.appends edits stores running))
