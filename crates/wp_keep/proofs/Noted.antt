-- One version more of those that are passed, the newest first.
use Rattle.std.proofs.Common.{◌≡◌, ℕ, suc, ◌+◌, ◌<◌, Bool, true, false, ◌&&◌, ◌||◌, Less, List, [], ◌∷◌, ◌++◌, length, map, take, drop, get_or, Option, Some, None, refl, sym, ap, ◌∙◌, subst, drop-cons}
use Rattle.std.proofs.lemmas.List.{take_more, take-append-drop, map-append}
use Rattle.std.specs.Str.{bytes_eq}
use Rattle.std.specs.Ordering.{nat_cmp}
use Rattle.std.specs.FinMap as finite
use Rattle.std.proofs.lemmas.List.Folds.{list_any-append}
use Rattle.std.proofs.lemmas.Slice.Eq.{bytes_eq-Decides}
use Rattle.wp_model.specs.declared.version.Version.{Version}
use Rattle.wp_model.specs.Versions.{AreInOrder, version_cmp}
use Rattle.wp_keep.specs.Keep.{by_commits, has_newer, is_needed, stays}
use Rattle.wp_model.specs.Decision.{is_by}
use Rattle.wp_keep.specs.Newer.{is_above}
use Rattle.wp_keep.proofs.Order.{IsAfter, placed_version, after_parts}
use Rattle.wp_keep.proofs.Any.{any_of, any_newer, none_passed}

abbrev pub Commits : Type 0
Commits = finite.FinMap nat_cmp ℕ

-- what is noted tells of each version after these which newer ones are committed
pub record HasNoted (commits : Commits) (front : List Version) (noted : Option (List ℕ × ℕ)) : Type 0 where
  pub each : (u : Version) → IsAfter u front → (n : ℕ) → is_above noted u.key n ≡ any_of u.key (λ w. by_commits commits w.number n) front

-- what is noted once a version with this commit, or none, was passed
pub record IsNotedKey (noted : Option (List ℕ × ℕ)) (key : List ℕ) (commit : Option ℕ) (next : Option (List ℕ × ℕ)) : Type 0 where
  pub uncommitted : commit ≡ None → next ≡ noted
  pub committed : (c : ℕ) → commit ≡ Some c → (other : List ℕ) (n : ℕ) → is_above next other n ≡ (bytes_eq key other && (is_above noted key n || is_by commit n))

or_false : (a : Bool) → a ≡ (a || false)
or_false true = refl
or_false false = refl

or_last : (a b : Bool) → (a || b) ≡ (a || (b || false))
or_last a b = ap (λ x. a || x) (or_false b)

and_nothing : (a b : Bool) → a ≡ (a || ((b && false) || false))
and_nothing true b = refl
and_nothing false true = refl
and_nothing false false = refl

pub noted_more : (commits : Commits) (front : List Version) (v : Version) (noted next : Option (List ℕ × ℕ)) (commit : Option ℕ) → commit ≡ finite.get commits v.number → IsNotedKey noted v.key commit next → IsAfter v front → HasNoted commits front noted → HasNoted commits (front ++ v ∷ []) next
noted_more commits front v noted next commit is note after had = record { each = each }
  where
    each : (u : Version) → IsAfter u (front ++ v ∷ []) → (n : ℕ) → is_above next u.key n ≡ any_of u.key (λ w. by_commits commits w.number n) (front ++ v ∷ [])
    each u h n = by commit refl ∙ sym (list_any-append (λ w. bytes_eq w.key u.key && by_commits commits w.number n) front (v ∷ []))
      where
        parts : IsAfter u front × (version_cmp v u ≡ Less)
        parts = after_parts u front v h

        by : (o : Option ℕ) → commit ≡ o → is_above next u.key n ≡ (any_of u.key (λ w. by_commits commits w.number n) front || ((bytes_eq v.key u.key && by_commits commits v.number n) || false))
        by None e =
            let here : by_commits commits v.number n ≡ false = ap (λ c. is_by c n) (sym is ∙ e) in
            ap (λ o. is_above o u.key n) (note.uncommitted e)
            ∙ had.each u parts.0 n
            ∙ and_nothing (any_of u.key (λ w. by_commits commits w.number n) front) (bytes_eq v.key u.key)
            ∙ ap (λ b. any_of u.key (λ w. by_commits commits w.number n) front || ((bytes_eq v.key u.key && b) || false)) (sym here)
        by (Some c) e = note.committed c e u.key n ∙ at_key (bytes_eq v.key u.key) refl
          where
            at_key : (b : Bool) → bytes_eq v.key u.key ≡ b → (b && (is_above noted v.key n || is_by commit n)) ≡ (any_of u.key (λ w. by_commits commits w.number n) front || ((b && by_commits commits v.number n) || false))
            at_key true same =
                let keys = (bytes_eq-Decides v.key u.key).0 same in
                (λ i. had.each v after n i || is_by (is i) n)
                ∙ ap (λ k. any_of k (λ w. by_commits commits w.number n) front || by_commits commits v.number n) keys
                ∙ or_last (any_of u.key (λ w. by_commits commits w.number n) front) (by_commits commits v.number n)
            at_key false other = sym (ap (λ b. b || false) (none_passed (λ w. by_commits commits w.number n) v u front after parts.1 other))

-- ---- whether the version stays

pub stays_by : (commits : Commits) (all front : List Version) (v : Version) (back : List Version) (snapshots : List ℕ) (floor : ℕ) (noted : Option (List ℕ × ℕ)) (commit above : Option ℕ) → all ≡ front ++ v ∷ back → AreInOrder all → HasNoted commits front noted → commit ≡ finite.get commits v.number → ((n : ℕ) → is_by above n ≡ is_above noted v.key n) → is_needed (is_by commit) (is_by above) snapshots floor ≡ stays (by_commits commits) all snapshots floor v
stays_by commits all front v back snapshots floor noted commit above split order had is tells =
    let place = placed_version front v back (subst AreInOrder split order) in
    let newer : (n : ℕ) → is_by above n ≡ has_newer (by_commits commits) all v n = λ n.
    tells n
    ∙ had.each v place.after n
    ∙ sym (any_newer (λ w. by_commits commits w.number n) front v back place)
    ∙ ap (λ vs. has_newer (by_commits commits) vs v n) (sym split) in
    λ i. is_needed (is_by (is i)) (λ n. newer n i) snapshots floor

-- ---- at a place of the list

split_at : (all : List Version) (i : ℕ) (v : Version) → i < length all → v ≡ get_or all i v → all ≡ take i all ++ v ∷ drop (suc i) all
split_at all i v within is =
    sym (take-append-drop i all) ∙ ap (λ vs. take i all ++ vs) (drop-cons all i v within ∙ ap (λ w. w ∷ drop (suc i) all) (sym is))

take_next : (all : List Version) (i : ℕ) (v : Version) → i < length all → v ≡ get_or all i v → take (i + 1) all ≡ take i all ++ v ∷ []
take_next all i v within is = take_more all i v within ∙ ap (λ w. take i all ++ w ∷ []) (sym is)

pub noted_at : (commits : Commits) (all : List Version) (i : ℕ) (v : Version) (noted next : Option (List ℕ × ℕ)) (commit : Option ℕ) → AreInOrder all → i < length all → v ≡ get_or all i v → commit ≡ finite.get commits v.number → IsNotedKey noted v.key commit next → HasNoted commits (take i all) noted → HasNoted commits (take (i + 1) all) next
noted_at commits all i v noted next commit order within is own note had =
    let split = split_at all i v within is in
    let place = placed_version (take i all) v (drop (suc i) all) (subst AreInOrder split order) in
    subst (λ vs. HasNoted commits vs next) (sym (take_next all i v within is)) (noted_more commits (take i all) v noted next commit own note place.after had)

-- whether the versions so far stay, and whether this one does
pub stay_at : (commits : Commits) (all : List Version) (i : ℕ) (v : Version) (snapshots : List ℕ) (floor : ℕ) (noted : Option (List ℕ × ℕ)) (commit above : Option ℕ) (needed : Bool) (stay next : List Bool) → AreInOrder all → i < length all → v ≡ get_or all i v → HasNoted commits (take i all) noted → commit ≡ finite.get commits v.number → ((n : ℕ) → is_by above n ≡ is_above noted v.key n) → needed ≡ is_needed (is_by commit) (is_by above) snapshots floor → stay ≡ map (stays (by_commits commits) all snapshots floor) (take i all) → next ≡ stay ++ needed ∷ [] → next ≡ map (stays (by_commits commits) all snapshots floor) (take (i + 1) all)
stay_at commits all i v snapshots floor noted commit above needed stay next order within is had own tells test before pushed =
    let this : needed ≡ stays (by_commits commits) all snapshots floor v = test ∙ stays_by commits all (take i all) v (drop (suc i) all) snapshots floor noted commit above (split_at all i v within is) order had own tells in
    pushed
    ∙ (λ j. before j ++ this j ∷ [])
    ∙ sym (map-append (stays (by_commits commits) all snapshots floor) (take i all) (v ∷ []))
    ∙ ap (map (stays (by_commits commits) all snapshots floor)) (sym (take_next all i v within is))
