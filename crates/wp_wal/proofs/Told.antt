-- What an outline tells that is put together from a log, record by record.
use Rattle.std.proofs.Common.{◌≡◌, ◌≢◌, ℕ, ◌+◌, ◌<◌, ◌≤◌, Bool, true, false, leb, List, [], ◌∷◌, ◌++◌, length, map, take, get_or, None, Some, Err, refl, sym, ap, subst, ◌∙◌, inl, inr, arith}
use Rattle.std.specs.Prelude.{slice_get}
use Rattle.std.specs.BTreeMap.{BTreeMap, IsOrdered, is_at}
use Rattle.std.specs.List.{AllByRecursion, list_all, range_with_len}
use Rattle.std.specs.Map.{lookup}
use Rattle.std.proofs.lemmas.Bool.{and_parts}
use Rattle.std.proofs.lemmas.List.{drop-append-le, take-append-le, take_all, take_more}
use Rattle.std.proofs.lemmas.Option.{none-some, same_Some}
use Rattle.wp_model.specs.declared.carried.Carried.{Carried}
use Rattle.wp_model.specs.declared.entry.Entry.{Entry}
use Rattle.wp_model.specs.declared.batch.TheConstants.{MOST_KEYS}
use Rattle.wp_model.specs.Batch.{are_ascending, is_batch, key_cmp}
use Rattle.wp_model.specs.History.{value_at}
use Rattle.wp_model.specs.Legal.{IsLegalNext, IsOrderlyNext, RestoresPrior, log_end}
use Rattle.wp_model.specs.Word.{is_name}
use Rattle.wp_history_laws.specs.Growth.{AreAscending}
use Rattle.wp_history_laws.proofs.Growth.{legal_next}
use Rattle.wp_cuts.specs.Cut.{Cut, carried_of, cut_at, front_entry, full_of}
use Rattle.wp_cuts.specs.LegalCut.{AreNumbered, prepares_of}
use Rattle.wp_cuts.proofs.FullLegal.{orderly_next}
use Rattle.wp_cuts.proofs.FullList.{full_long}
use Rattle.wp_cuts.proofs.Several.{full_grows}
use Rattle.wp_fields.specs.declared.format.Format.{Format}
use Rattle.wp_fields.specs.declared.format.Format.TheVariants.{One, Two}
use Rattle.wp_encoding.specs.Encoding.{are_changes, is_change}
use Rattle.wp_entry.specs.declared.error.RecordError.{RecordError}
use Rattle.wp_entry.specs.declared.error.RecordError.TheVariants.{Short}
use Rattle.wp_entry.specs.Base.{AscendUpTo, Base, IsBase, base_bytes, is_carried}
use Rattle.wp_entry.specs.Reading.{record_at}
use Rattle.wp_entry.specs.Record.{IsRecord, record_bytes}
use Rattle.wp_history.specs.History.{RoomyHistory, HasBaseValues, cut_of}
use Rattle.wp_history.specs.Outline.{collision_of, cut_in}
use Rattle.wp_history.proofs.Apart.{are_apart}
use Rattle.wp_history.proofs.Judged.{legal_by_both}
use Rattle.wp_history.proofs.Kept.{kept_at_base}
use Rattle.wp_wal.specs.declared.error.WalError.{WalError}
use Rattle.wp_wal.specs.declared.error.WalError.TheVariants.{Memory, DiskFault, BadHead, BadRecord, Illegal}
use Rattle.wp_wal.specs.Reading.{AreRefusedEntries, BeginsWith, IsBaseCause, IsBaseOf, IsIllegalAmong, IsIllegalRecord, IsJudged, IsNoRecord, IsRecordCause, IsRefusedEntry, IsRefusedRecord, IsTold, MayCome, TakesRecord, next_number}
use Rattle.wp_wal.specs.Spelling.{AreCut, IsBegun, base_of_cut, longer, uncut}
use Rattle.wp_wal.proofs.CutLemmas.{base_refused, begun-push, placed}
use Rattle.wp_wal.proofs.EntriesLemmas.{last_below}

-- ---- its full list

-- without a base there are the entries alone
none_below : (c : Cut) → c.base ≡ 0 → prepares_of c ≡ c.entries
unfolding full_of
none_below c none = ap (λ (n : ℕ). map (front_entry c []) (range_with_len 1 n) ++ c.entries) none

pub told_long : (h : RoomyHistory) → h.entries ≡ prepares_of (cut_in h) → next_number (cut_in h) ≡ length h.entries + 1
told_long h full = let long = full_long (cut_in h) [] in omega (arith, ap (λ (xs : List Entry). length xs) full, long)

pub due_told : (h : RoomyHistory) (n : ℕ) → IsTold h → n ≡ length h.entries → n + 1 ≡ next_number (cut_in h)
due_told h n told is = let long = told_long h told.full in omega (arith, is, long)

pub cut_same : (h k : RoomyHistory) → k.base ≡ h.base → k.entries ≡ h.entries → cut_in k ≡ cut_in h
cut_same h k base entries = λ i. cut_at (entries i) (base i)

pub told_same : (h k : RoomyHistory) → k.base ≡ h.base → k.entries ≡ h.entries → IsTold h → IsTold k
told_same h k base entries told =
    let cut : cut_in k ≡ cut_in h = cut_same h k base entries in
    record { full = entries ∙ told.full ∙ ap prepares_of (sym cut); judged = subst IsJudged (sym cut) told.judged }

-- ---- whether an entry may come

-- without a base there are no values below it
pub no_values : (h : RoomyHistory) (store : BTreeMap (List ℕ) (List ℕ)) → h.base ≡ 0 → store.entries ≡ [] → IsOrdered key_cmp store → HasBaseValues h store
no_values h store none empty ordered = record {
  ordered = ordered;
  each = λ key. ap (λ (es : List (List ℕ × List ℕ)). lookup (is_at (key_cmp key)) es) empty ∙ (λ i. value_at h.entries key (sym none i));
}

pub not_orderly : (h : RoomyHistory) (entry : Entry) (r : Bool) → h.entries ≡ prepares_of (cut_in h) → (IsOrderlyNext h.entries entry → r ≡ true) → r ≡ false → MayCome (cut_in h) entry → ⊥
not_orderly h entry r full orderly refused may =
    let yes : r ≡ true = orderly (subst (λ (es : List Entry). IsOrderlyNext es entry) (sym full) may.0) in
    absurd cc

pub over_base : (h : RoomyHistory) (entry : Entry) → h.entries ≡ prepares_of (cut_in h) → 0 < h.base → IsOrderlyNext h.entries entry → MayCome (cut_in h) entry
over_base h entry full above orderly = (subst (λ (es : List Entry). IsOrderlyNext es entry) full orderly, λ none. absurd (omega (arith, above, none)))

pub without_base : (h : RoomyHistory) (entry : Entry) (n : ℕ) (r : Bool) → h.entries ≡ prepares_of (cut_in h) → h.base ≡ 0 → n ≡ length h.entries → IsOrderlyNext h.entries entry
    → (r ≡ true → RestoresPrior (take n h.entries) entry) × (RestoresPrior (take n h.entries) entry → r ≡ true)
    → (r ≡ true → MayCome (cut_in h) entry) × (MayCome (cut_in h) entry → r ≡ true)
without_base h entry n r full none whole orderly restores =
    let both = legal_by_both h.entries entry n r whole orderly restores in
    let same : h.entries ≡ (cut_in h).entries = full ∙ none_below (cut_in h) none in (
      λ yes. (subst (λ (es : List Entry). IsOrderlyNext es entry) full orderly, λ _. subst (λ (es : List Entry). IsLegalNext es entry) same (both.0 yes)),
      λ may. both.1 (subst (λ (es : List Entry). IsLegalNext es entry) (sym same) (may.1 none)),
    )

-- ---- one entry more

judged_next : (c : Cut) (entry : Entry) → IsJudged c → MayCome c entry → c.base + length c.entries + 1 < log_end → IsJudged (longer c (entry ∷ []))
judged_next c entry judged may few = record {
  orderly = orderly_next c entry judged.orderly may.0 few;
  legal = λ none. legal_next c.entries entry (judged.legal none) (may.1 none) (omega (arith, few));
}

pub told_next : (old new : RoomyHistory) (entry : Entry) → IsTold old → new.entries ≡ old.entries ++ entry ∷ [] → cut_in new ≡ longer (cut_in old) (entry ∷ []) → length old.entries + 1 < log_end → MayCome (cut_in old) entry → IsTold new
told_next old new entry told entries cut few may =
    let long = told_long old told.full in
    record {
      full = entries ∙ ap (λ (es : List Entry). es ++ entry ∷ []) told.full ∙ sym (full_grows (cut_in old) [] (entry ∷ [])) ∙ ap prepares_of (sym cut);
      judged = subst IsJudged (sym cut) (judged_next (cut_in old) entry told.judged may (omega (arith, few, long)));
    }

-- an outline with some entries more
pub cut_longer : (old new : RoomyHistory) (more : List Entry) → IsTold old → new.base ≡ old.base → new.entries ≡ old.entries ++ more → cut_in new ≡ longer (cut_in old) more
cut_longer old new more told base entries =
    let long = told_long old told.full in
    let within : old.base ≤ length old.entries = omega (arith, long) in
    let here : cut_in new ≡ cut_at (old.entries ++ more) old.base = λ i. cut_at (entries i) (base i) in
    let parts : cut_at (old.entries ++ more) old.base ≡ longer (cut_in old) more =
    λ i. record { base = old.base; carried = carried_of (take-append-le old.base old.entries more within i); entries = drop-append-le old.base old.entries more within i } in
    here ∙ parts

illegal_there : (old here : RoomyHistory) (entries before after : List Entry) (entry : Entry) (number : ℕ) → entries ≡ before ++ entry ∷ after → cut_in here ≡ longer (cut_in old) before → IsTold here → (MayCome (cut_in here) entry → ⊥) → number ≡ next_number (cut_in here)
    → IsIllegalAmong (cut_in old) entries number
illegal_there old here entries before after entry number parts cut told illegal at = record {
  before = before;
  entry = entry;
  after = after;
  parts = parts;
  judged = subst IsJudged cut told.judged;
  illegal = subst (λ (c : Cut). MayCome c entry → ⊥) cut illegal;
  at = at ∙ ap next_number cut;
}

pub refused_there : (old here : RoomyHistory) (entries before after : List Entry) (entry : Entry) (why : WalError) → entries ≡ before ++ entry ∷ after → cut_in here ≡ longer (cut_in old) before → IsTold here → IsRefusedEntry (cut_in here) entry why
    → AreRefusedEntries (cut_in old) entries why
refused_there old here entries before after entry Memory parts cut told refused = tt
refused_there old here entries before after entry DiskFault parts cut told refused = absurd refused
refused_there old here entries before after entry BadHead parts cut told refused = absurd refused
refused_there old here entries before after entry (BadRecord index why) parts cut told refused = absurd refused
refused_there old here entries before after entry (Illegal number) parts cut told refused = illegal_there old here entries before after entry number parts cut told refused.1 refused.0

-- the entries of a record have numbers that a log may have
pub few_there : (format : Format) (h : RoomyHistory) (due : ℕ) (entries : List Entry) → due ≡ length h.entries + 1 → IsRecord format due entries → length h.entries + length entries < log_end
few_there format h due entries numbered is =
    let fits = is.form.numbered in
    let below = last_below format in
    omega (arith, fits, below, numbered)

pub takes_there : (format : Format) (old mid new : RoomyHistory) (due : ℕ) (entries : List Entry) (bytes : List ℕ) → IsTold old → mid.base ≡ old.base → mid.entries ≡ old.entries → new.base ≡ mid.base → new.entries ≡ mid.entries ++ entries → due ≡ length old.entries + 1
    → IsRecord format due entries → bytes ≡ record_bytes format due entries → TakesRecord format (cut_in old) (cut_in new) bytes
takes_there format old mid new due entries bytes told base same base_too more numbered is spelling =
    let here : due ≡ next_number (cut_in old) = numbered ∙ sym (told_long old told.full) in
    record {
      entries = entries;
      is = subst (λ (n : ℕ). IsRecord format n entries) here is;
      spelling = spelling ∙ ap (λ (n : ℕ). record_bytes format n entries) here;
      whole = cut_longer old new entries told (base_too ∙ base) (more ∙ ap (λ (es : List Entry). es ++ entries) same);
    }

illegal_record : (format : Format) (old mid : RoomyHistory) (due : ℕ) (entries : List Entry) (bytes : List ℕ) (number : ℕ) → IsTold old → mid.base ≡ old.base → mid.entries ≡ old.entries → due ≡ length old.entries + 1
    → IsRecord format due entries → bytes ≡ record_bytes format due entries → IsIllegalAmong (cut_in mid) entries number → IsIllegalRecord format (cut_in old) bytes number
illegal_record format old mid due entries bytes number told base same numbered is spelling among =
    let here : due ≡ next_number (cut_in old) = numbered ∙ sym (told_long old told.full) in
    record {
      entries = entries;
      is = subst (λ (n : ℕ). IsRecord format n entries) here is;
      spelling = spelling ∙ ap (λ (n : ℕ). record_bytes format n entries) here;
      among = subst (λ (c : Cut). IsIllegalAmong c entries number) (cut_same old mid base same) among;
    }

pub entries_refused : (format : Format) (old mid : RoomyHistory) (due index : ℕ) (entries : List Entry) (bytes : List ℕ) (why : WalError) → IsTold old → mid.base ≡ old.base → mid.entries ≡ old.entries → due ≡ length old.entries + 1
    → IsRecord format due entries → bytes ≡ record_bytes format due entries → AreRefusedEntries (cut_in mid) entries why → IsRefusedRecord format (cut_in old) index bytes why
entries_refused format old mid due index entries bytes Memory told base same numbered is spelling refused = tt
entries_refused format old mid due index entries bytes DiskFault told base same numbered is spelling refused = absurd refused
entries_refused format old mid due index entries bytes BadHead told base same numbered is spelling refused = absurd refused
entries_refused format old mid due index entries bytes (BadRecord at why) told base same numbered is spelling refused = absurd refused
entries_refused format old mid due index entries bytes (Illegal number) told base same numbered is spelling refused = illegal_record format old mid due entries bytes number told base same numbered is spelling refused

pub no_record_there : (format : Format) (h : RoomyHistory) (due : ℕ) (bytes : List ℕ) (why : RecordError) → IsTold h → due ≡ length h.entries + 1 → record_at format due bytes ≡ Err why → IsNoRecord format (cut_in h) bytes why
no_record_there format h due bytes why told numbered wrong = record {
  judged = told.judged;
  wrong = ap (λ (n : ℕ). record_at format n bytes) (told_long h told.full ∙ sym numbered) ∙ wrong;
}

-- ---- a base that is read

above : (base last low : ℕ) (xs : List Carried) → low ≤ last → AscendUpTo base last xs → AllByRecursion (λ q. low < q) (map (λ (x : Carried). x.number) xs)
above base last low [] le ascend = tt
above base last low (x ∷ xs) le ascend = let lt = ascend.0 in (omega (arith, lt, le), above base x.number low xs (omega (arith, lt, le)) ascend.2)

ascending : (base last : ℕ) (xs : List Carried) → AscendUpTo base last xs → AreAscending (map (λ (x : Carried). x.number) xs)
ascending base last [] ascend = tt
ascending base last (x ∷ xs) ascend = (above base x.number x.number xs (omega arith) ascend.2, ascending base x.number xs ascend.2)

within : (base last : ℕ) (xs : List Carried) → AscendUpTo base last xs → AllByRecursion (λ (x : Carried). (1 ≤ x.number) × (x.number ≤ base)) xs
within base last [] ascend = tt
within base last (x ∷ xs) ascend = let lt = ascend.0 in ((omega (arith, lt), ascend.1), within base x.number xs ascend.2)

pub numbered_base : (base : Base) → IsBase base → AreNumbered (cut_of base.number base.carried [])
numbered_base base is = record { ascend = ascending base.number 0 base.carried is.ascend; within = within base.number 0 base.carried is.ascend }

batches_ascend : (xs : List Carried) → list_all is_carried xs ≡ true → AllByRecursion (λ (x : Carried). are_ascending x.batch ≡ true) xs
batches_ascend [] all = tt
batches_ascend (x ∷ xs) all =
    let parts = and_parts (is_carried x) (list_all is_carried xs) all in
    let changes = and_parts (is_name x.name) (are_changes x.batch) parts.0 in
    let batch = and_parts (is_batch x.batch) (list_all is_change x.batch) changes.1 in
    let order = and_parts (leb (length x.batch) MOST_KEYS) (are_ascending x.batch) batch.0 in
    (order.1, batches_ascend xs parts.1)

pub ascending_base : (base : Base) → IsBase base → AllByRecursion (λ (x : Carried). are_ascending x.batch ≡ true) base.carried
ascending_base base is = batches_ascend base.carried is.in_range

pub is_base_of : (h : RoomyHistory) (base : Base) (bytes : List ℕ) → cut_in h ≡ cut_of base.number base.carried [] → IsBase base → bytes ≡ base_bytes base → IsBaseOf (cut_in h) bytes
is_base_of h base bytes cut is spelling = subst (λ (c : Cut). IsBaseOf c bytes) (sym cut) (record { none = refl; is = is; spelling = spelling })

pub told_base : (h : RoomyHistory) (base : Base) → cut_in h ≡ cut_of base.number base.carried [] → h.entries ≡ prepares_of (cut_of base.number base.carried []) → IsBase base → collision_of base.carried ≡ None → IsTold h
told_base h base cut full is apart =
    let small = is.small in
    let kept = kept_at_base base.number base.carried [] (map (λ (x : Carried). x.number) base.carried) (omega (arith, small)) (numbered_base base is) (are_apart base.number base.carried (ascending_base base is) apart) refl in
    record {
      full = full ∙ ap prepares_of (sym cut);
      judged = subst IsJudged (sym cut) (record { orderly = kept.cut; legal = λ none. record { few = omega arith; each = λ n entry at. absurd cc } });
    }

-- ---- what stands before the entries

none_there : (h : RoomyHistory) → h.base ≡ 0 → h.entries ≡ [] → cut_in h ≡ uncut []
none_there h none empty = λ i. cut_at (empty i) (none i)

pub told_none : (h : RoomyHistory) → h.base ≡ 0 → h.entries ≡ [] → IsTold h
told_none h none empty =
    let base : Base = base_of_cut (uncut []) in
    let cut : cut_in h ≡ uncut [] = none_there h none empty in
    told_base h base cut (empty ∙ sym (none_below (uncut []) refl)) (record { small = omega arith; ascend = tt; in_range = refl }) refl

none_spelled : (format : Format) (c : Cut) → c ≡ uncut [] → AreCut format 0 [] c
none_spelled One c is = (ap (λ (x : Cut). x.base) is, ap (λ (x : Cut). x.carried) is, ap (λ (x : Cut). x.entries) is, inl refl)
none_spelled Two c is = (refl, is)

pub none_first : (records : List (List ℕ)) → None ≡ slice_get records 0 → records ≡ []
none_first [] none = refl
none_first (r ∷ records) none = absurd (none-some r none)

pub some_first : (records : List (List ℕ)) (bytes : List ℕ) → Some bytes ≡ slice_get records 0 → records ≢ []
some_first [] bytes some nothing = none-some bytes (sym some)
some_first (r ∷ records) bytes some nothing = cc nothing

pub begins_none : (format : Format) (place : ℕ) (records : List (List ℕ)) (h : RoomyHistory) → records ≡ [] → place ≡ 0 → h.base ≡ 0 → h.entries ≡ [] → BeginsWith format place records 0 (cut_in h)
begins_none format place records h nothing here none empty = record {
  none = ap (λ (x : Cut). x.entries) (none_there h none empty);
  spelled = none_spelled format (cut_in h) (none_there h none empty);
  begun = λ some. absurd (some nothing);
  there = λ _. here;
}

pub begins_one : (place : ℕ) (records : List (List ℕ)) (h : RoomyHistory) → records ≢ [] → h.base ≡ 0 → h.entries ≡ [] → BeginsWith One place records 0 (cut_in h)
begins_one place records h some none empty = record {
  none = ap (λ (x : Cut). x.entries) (none_there h none empty);
  spelled = none_spelled One (cut_in h) (none_there h none empty);
  begun = λ _. tt;
  there = λ nothing. absurd (some nothing);
}

pub begins_two : (place : ℕ) (records : List (List ℕ)) (bytes : List ℕ) (h : RoomyHistory) → slice_get records 0 ≡ Some bytes → IsBaseOf (cut_in h) bytes → BeginsWith Two place records 1 (cut_in h)
begins_two place [] bytes h first base = absurd (none-some bytes first)
begins_two place (r ∷ records) bytes h first base = record {
  none = base.none;
  spelled = (base.is, same_Some r bytes first ∙ base.spelling, base.none);
  begun = λ _ e. cc e;
  there = λ nothing. absurd (cc nothing);
}

-- ---- what is refused before the entries

pub missing : (format : Format) (place : ℕ) (records : List (List ℕ)) → records ≡ [] → 0 < place → IsRecordCause format place records (BadRecord 0 Short)
missing format place records nothing above = inr (inr (λ here. absurd (omega (arith, above, here)), nothing, refl, refl))

pub first_refused : (place : ℕ) (records : List (List ℕ)) (first : List ℕ) (why : WalError) → slice_get records 0 ≡ Some first → IsBaseCause first why → IsRecordCause Two place records why
first_refused place [] first why there cause = absurd (none-some first there)
first_refused place (r ∷ records) first why there cause = base_refused place r records why (subst (λ (bytes : List ℕ). IsBaseCause bytes why) (sym (same_Some r first there)) cause)

-- ---- one record after another

pub some_records : (records : List (List ℕ)) (i : ℕ) → i < length records → records ≢ []
some_records records i lt none = let n : length records ≡ 0 = ap (λ (rs : List (List ℕ)). length rs) none in absurd (omega (arith, n, lt))

pub begun_more : (format : Format) (records : List (List ℕ)) (i : ℕ) (here : List ℕ) → i < length records → IsBegun format (take (i + 1) records)
begun_more format records i here lt = subst (IsBegun format) (sym (take_more records i here lt)) (begun-push format (take i records) (get_or records i here))

pub all_read : (format : Format) (place : ℕ) (records : List (List ℕ)) (i : ℕ) (c : Cut) → length records ≤ i → (records ≡ [] → place ≡ 0) → AreCut format 0 (take i records) c → AreCut format place records c
all_read format place records i c end there spelled = placed format place records c there (subst (λ (rs : List (List ℕ)). AreCut format 0 rs c) (take_all i records end) spelled)
