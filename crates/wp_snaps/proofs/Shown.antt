-- What a list of entries, each with its room, shows as snapshots.
use Rattle.std.proofs.Common.{◌≡◌, ℕ, ◌-◌, ◌<◌, ◌≤◌, Bool, true, false, cond, ◌==◌, List, [], ◌∷◌, Option, Some, None, is_some, map, inl, inr, refl, sym, ap, ◌∙◌}
use Rattle.std.specs.Cmp.{nat_cmp_total, unsigned_tied}
use Rattle.std.specs.Ordering.{nat_cmp, eq_by_cmp}
use Rattle.std.specs.Option.{option_map}
use Rattle.std.specs.Map.{lookup}
use Rattle.std.specs.BTreeMap.{is_at}
use Rattle.std.specs.FinMap.{find, get, from_entries, get-from_entries, same_map, nat_cmp-IsAntisymmetric}
use Rattle.std.proofs.lemmas.Bool.{cases_eq, eq-eqb, ne_eqb, le-leb, lt-leb}
use Rattle.wp_model.specs.Snapshots.{LiveSnapshot, Snapshots, after_release, ChangesWhere}
use Rattle.wp_snaps.specs.Room.{RoomySnapshot}

-- the entries without their room
abbrev pub shown_of : List (ℕ × RoomySnapshot) → Snapshots
shown_of es = from_entries (map (λ e. (e.0, e.1.snapshot)) es)

-- what the entries have at q
abbrev pub snapshot_at : List (ℕ × RoomySnapshot) → ℕ → Option RoomySnapshot
snapshot_at es q = lookup (is_at (nat_cmp q)) es

-- a value without its room
abbrev pub shown : Option RoomySnapshot → Option LiveSnapshot
shown = option_map (λ x. x.snapshot)

shown_choice : (b : Bool) (x : RoomySnapshot) (y : Option RoomySnapshot) → cond b (Some x.snapshot) (shown y) ≡ shown (cond b (Some x) y)
shown_choice true x y = refl
shown_choice false x y = refl

find_shown : (es : List (ℕ × RoomySnapshot)) (q : ℕ) → find nat_cmp q (map (λ e. (e.0, e.1.snapshot)) es) ≡ shown (snapshot_at es q)
find_shown [] q = refl
find_shown (e ∷ es) q = ap (cond (eq_by_cmp nat_cmp q e.0) (Some e.1.snapshot)) (find_shown es q) ∙ shown_choice (eq_by_cmp nat_cmp q e.0) e.1 (snapshot_at es q)

pub get-shown_of : (es : List (ℕ × RoomySnapshot)) (q : ℕ) → get (shown_of es) q ≡ shown (snapshot_at es q)
get-shown_of es q = get-from_entries nat_cmp_total _ q ∙ find_shown es q

shown_of_same : (es ns : List (ℕ × RoomySnapshot)) → ((q : ℕ) → shown (snapshot_at ns q) ≡ shown (snapshot_at es q)) → shown_of ns ≡ shown_of es
shown_of_same es ns same = same_map nat_cmp_total nat_cmp-IsAntisymmetric _ _ (λ q. get-shown_of ns q ∙ same q ∙ sym (get-shown_of es q))

-- ns has w at s, and what es has at each other number
abbrev pub UpdatedAt : List (ℕ × RoomySnapshot) → List (ℕ × RoomySnapshot) → ℕ → Option RoomySnapshot → Type 0
UpdatedAt es ns s w = (q : ℕ) → snapshot_at ns q ≡ cond (eq_by_cmp nat_cmp s q) w (snapshot_at es q)

-- entries that are changed at one number show just that change
pub changes_at : (es ns : List (ℕ × RoomySnapshot)) (s : ℕ) (w : Option RoomySnapshot) (change : Option LiveSnapshot → Option LiveSnapshot) → UpdatedAt es ns s w → shown w ≡ change (shown (snapshot_at es s)) → ChangesWhere (λ q. q == s) change (shown_of es) (shown_of ns)
changes_at es ns s w change updated is q =
    get-shown_of ns q
    ∙ ap shown (updated q)
    ∙ elim (cases_eq q s) [
      | inl same ↦
          rw (unsigned_tied s q, eq-eqb s q (sym same), eq-eqb q s same)
          (is ∙ ap change (sym (get-shown_of es s)) ∙ ap (λ k. change (get (shown_of es) k)) (sym same))
      | inr apart ↦ rw (unsigned_tied s q, ne_eqb s q (λ e. apart (sym e)), ne_eqb q s apart) (sym (get-shown_of es q))
    ]

-- entries that show at s what they showed before show no change
pub shows_no_change : (es ns : List (ℕ × RoomySnapshot)) (s : ℕ) (w : Option RoomySnapshot) → UpdatedAt es ns s w → shown w ≡ shown (snapshot_at es s) → shown_of ns ≡ shown_of es
shows_no_change es ns s w updated is =
    shown_of_same es ns (λ q.
    ap shown (updated q)
    ∙ elim (cases_eq s q) [
      | inl same ↦ rw (unsigned_tied s q, eq-eqb s q same) (is ∙ ap (λ k. shown (snapshot_at es k)) same)
      | inr apart ↦ rw (unsigned_tied s q, ne_eqb s q apart) refl
    ])

cond_twice : {X : Type 0} (b : Bool) (x y z : X) → cond b x (cond b y z) ≡ cond b x z
cond_twice true x y z = refl
cond_twice false x y z = refl

-- of two changes at one number the last stays
pub updated_twice : (es ms ns : List (ℕ × RoomySnapshot)) (s : ℕ) (v w : Option RoomySnapshot) → UpdatedAt es ms s v → UpdatedAt ms ns s w → UpdatedAt es ns s w
updated_twice es ms ns s v w first second q = second q ∙ ap (cond (eq_by_cmp nat_cmp s q) w) (first q) ∙ cond_twice (eq_by_cmp nat_cmp s q) w v (snapshot_at es q)

pub is_some-option_map : {X Y : Type 0} (f : X → Y) (o : Option X) → is_some (option_map f o) ≡ is_some o
is_some-option_map f None = refl
is_some-option_map f (Some x) = refl

-- just the live numbers have an entry
pub is_live : (es : List (ℕ × RoomySnapshot)) (m : Snapshots) (s : ℕ) → shown_of es ≡ m → is_some (get m s) ≡ is_some (snapshot_at es s)
is_live es m s is = ap (λ n. is_some (get n s)) (sym is) ∙ ap is_some (get-shown_of es s) ∙ is_some-option_map (λ x. x.snapshot) (snapshot_at es s)

-- what is live at s is what its entry shows
pub get_of_entry : (es : List (ℕ × RoomySnapshot)) (m : Snapshots) (s : ℕ) (x : RoomySnapshot) → shown_of es ≡ m → Some x ≡ snapshot_at es s → get m s ≡ Some x.snapshot
get_of_entry es m s x is found = ap (λ n. get n s) (sym is) ∙ get-shown_of es s ∙ ap shown (sym found)

-- of several registrations one goes, of one the snapshot goes
pub after_release-shared : (x : LiveSnapshot) → 1 < x.registrations → after_release (Some x) ≡ Some (record x { registrations = x.registrations - 1 })
after_release-shared x shared = rw (lt-leb x.registrations 1 shared) refl

pub after_release-last : (x : LiveSnapshot) → x.registrations ≤ 1 → after_release (Some x) ≡ None
after_release-last x last = rw (le-leb x.registrations 1 last) refl
