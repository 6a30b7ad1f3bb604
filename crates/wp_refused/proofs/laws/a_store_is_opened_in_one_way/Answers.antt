use Rattle.std.proofs.Common.{sym, ◌∙◌}
use Rattle.wp_refused.proofs.OneFault.{one_damage}
use Rattle.wp_refused.proofs.OneWay.{same_history, same_ids, same_installed, not_damaged}
use Rattle.wp_refused.proofs.laws.a_store_is_opened_in_one_way.Goals as goal

pub returns-clause-one_history : goal.returns-clause-one_history
returns-clause-one_history c =
    let logs = c.a_log_is_read_in_one_way.ensures in
    let manifests = c.a_manifest_is_read_in_one_way.ensures in
    let table = c.bytes_are_read_in_one_way-2.ensures in
    λ log manifest tables id other history another o p.
    same_history c.bytes_are_read_in_one_way.ensures.one_id c.logs_at_a_place_are_read_in_one_way.ensures.one_id
    (record { one_cut = logs.one_cut; bad_head = logs.spelled_or_bad_head; bad_record = logs.spelled_or_bad_record; illegal = logs.judged_or_illegal })
    (record { one_list = manifests.one_list; bad_head = manifests.edits_or_bad_head; bad_edit = manifests.edits_or_bad_edit })
    (record { one_table = table.one_table; not_both = table.not_both })
    log manifest tables id other history another o p

pub returns-clause-one_edit : goal.returns-clause-one_edit
returns-clause-one_edit c =
    let logs = c.a_log_is_read_in_one_way.ensures in
    let manifests = c.a_manifest_is_read_in_one_way.ensures in
    let table = c.bytes_are_read_in_one_way-2.ensures in
    λ log manifest tables id other history another edit also o p.
    o.1
    ∙ same_installed c.bytes_are_read_in_one_way.ensures.one_id c.logs_at_a_place_are_read_in_one_way.ensures.one_id
    (record { one_cut = logs.one_cut; bad_head = logs.spelled_or_bad_head; bad_record = logs.spelled_or_bad_record; illegal = logs.judged_or_illegal })
    (record { one_list = manifests.one_list; bad_head = manifests.edits_or_bad_head; bad_edit = manifests.edits_or_bad_edit })
    (record { one_table = table.one_table; not_both = table.not_both })
    log manifest tables id other history another o.0 p.0
    ∙ sym p.1

pub returns-clause-one_id : goal.returns-clause-one_id
returns-clause-one_id c =
    let logs = c.a_log_is_read_in_one_way.ensures in
    let manifests = c.a_manifest_is_read_in_one_way.ensures in
    let table = c.bytes_are_read_in_one_way-2.ensures in
    λ log manifest tables id other history another made o p.
    same_ids c.bytes_are_read_in_one_way.ensures.one_id c.logs_at_a_place_are_read_in_one_way.ensures.one_id
    (record { one_cut = logs.one_cut; bad_head = logs.spelled_or_bad_head; bad_record = logs.spelled_or_bad_record; illegal = logs.judged_or_illegal })
    (record { one_list = manifests.one_list; bad_head = manifests.edits_or_bad_head; bad_edit = manifests.edits_or_bad_edit })
    (record { one_table = table.one_table; not_both = table.not_both })
    log manifest tables id other history another o p made

pub returns-clause-opened_or_damaged : goal.returns-clause-opened_or_damaged
returns-clause-opened_or_damaged c =
    let logs = c.a_log_is_read_in_one_way.ensures in
    let manifests = c.a_manifest_is_read_in_one_way.ensures in
    let table = c.bytes_are_read_in_one_way-2.ensures in
    λ log manifest tables asked id history damage o asks.
    not_damaged c.bytes_are_read_in_one_way.ensures.one_id c.logs_at_a_place_are_read_in_one_way.ensures.one_id
    (record { one_cut = logs.one_cut; bad_head = logs.spelled_or_bad_head; bad_record = logs.spelled_or_bad_record; illegal = logs.judged_or_illegal })
    (record { one_list = manifests.one_list; bad_head = manifests.edits_or_bad_head; bad_edit = manifests.edits_or_bad_edit })
    (record { one_table = table.one_table; not_both = table.not_both })
    log manifest tables asked id history o asks damage

pub returns-clause-one_fault : goal.returns-clause-one_fault
returns-clause-one_fault c =
    let logs = c.a_log_is_read_in_one_way.ensures in
    let manifests = c.a_manifest_is_read_in_one_way.ensures in
    let table = c.bytes_are_read_in_one_way-2.ensures in
    λ log manifest tables asked. one_damage (record {
      one_id = c.bytes_are_read_in_one_way.ensures.one_id;
      one_id_at = c.logs_at_a_place_are_read_in_one_way.ensures.one_id;
      log = record { one_cut = logs.one_cut; bad_head = logs.spelled_or_bad_head; bad_record = logs.spelled_or_bad_record; illegal = logs.judged_or_illegal };
      log_faults = record { one_bad_record = logs.one_bad_record; one_illegal = logs.one_illegal; head_or_record = logs.bad_head_or_bad_record; head_or_illegal = logs.bad_head_or_illegal; record_or_illegal = logs.bad_record_or_illegal };
      manifest = record { one_list = manifests.one_list; bad_head = manifests.edits_or_bad_head; bad_edit = manifests.edits_or_bad_edit };
      manifest_faults = record { one_bad_edit = manifests.one_bad_edit; head_or_edit = manifests.bad_head_or_bad_edit };
      table = record { one_table = table.one_table; not_both = table.not_both };
      table_faults = table.one_fault;
    }) asked log manifest tables
