-- A statement that is placed comes after the others, and one that is refused is misplaced.
use Rattle.std.proofs.Common.{◌≡◌, ◌≢◌, ℕ, suc, ◌+◌, ◌<◌, ◌≤◌, Bool, true, false, cond, ◌||◌, ltb, List, [], ◌∷◌, ◌++◌, length, map, get_or, set, Option, Some, None, Result, Ok, Err, refl, sym, ap, subst, ◌∙◌, inl, inr, append_assoc, arith}
use Rattle.std.specs.List.{flat_map, filter_map, list_any, AllPairs, Contains}
use Rattle.std.specs.Str.{bytes_eq}
use Rattle.std.proofs.Math.ListN.{get_or-append}
use Rattle.std.proofs.Math.Seq.{get_or-append_seam}
use Rattle.std.proofs.lemmas.Bool.{ltb-true, ltb-false, le-ltb}
use Rattle.std.proofs.lemmas.Cmp.{nat_list_eq_equiv}
use Rattle.std.proofs.lemmas.List.{append-nil, length-append, length-map, length_push, map_push}
use Rattle.std.proofs.lemmas.List.Concat.{flat_map-append}
use Rattle.std.proofs.lemmas.List.Elements.{filter_map-append, Contains-get_or}
use Rattle.std.proofs.lemmas.List.Quantifiers.{all_pairs_push}
use Rattle.std.proofs.lemmas.Map.Views.{list_any-from_Contains, Contains-from_any}
use Rattle.std.proofs.lemmas.Slice.Eq.{bytes_eq-Decides}
use Rattle.wp_text.specs.declared.fault.Why.{Why}
use Rattle.wp_text.specs.declared.fault.Why.TheVariants.{NoClient, ClientTwice, ManyClients}
use Rattle.wp_text.specs.declared.line.Statement.{Statement}
use Rattle.wp_text.specs.declared.line.Statement.TheVariants as statement
use Rattle.wp_text.specs.declared.script.Command.{Command}
use Rattle.wp_text.specs.declared.script.Part.{Part}
use Rattle.wp_text.specs.declared.read.TheConstants.{MOST_CLIENTS}
use Rattle.wp_text.specs.Grammar.{statements_of, clients}
use Rattle.wp_text.specs.Faults.{IsMisplaced}
use Rattle.wp_text.specs.Reading.{has_client, with_client, with_command, with_statement}
use Rattle.wp_fields.proofs.Results.{bind_ok, bind_err, chosen, ok_is, err_is, ok_or_err, either}

-- the part with one more command
abbrev pub with_one : Part → Command → Part
with_one part command = record part { commands = part.commands ++ command ∷ [] }

pub with_command_last : (parts : List Part) (command : Command) (last : Part) (n : ℕ) → length parts ≡ n + 1 → last ≡ get_or parts n last → with_command parts command ≡ Ok (set parts n (with_one last command))
unfolding with_command
with_command_last [] command last n len is = absurd (omega arith)
with_command_last (part ∷ []) command last n len is =
    let zero_is : n ≡ 0 = omega arith in
    let same : last ≡ part = rw zero_is at is in
    rw (zero_is, same) refl
with_command_last (part ∷ second ∷ others) command last n len is =
    let suc_is : n ≡ suc (length others) = omega arith in
    let there : last ≡ get_or (second ∷ others) (length others) last = rw suc_is at is in
    let after = with_command_last (second ∷ others) command last (length others) (omega arith) there in
    rw (suc_is, after) refl

-- ---- clients

any_client : (parts : List Part) (name : List ℕ) → has_client parts name ≡ list_any (bytes_eq name) (clients parts)
any_client [] name = refl
any_client (part ∷ parts) name = ap (λ (b : Bool). bytes_eq name part.client || b) (any_client parts name)

client_there : (parts : List Part) (name : List ℕ) → has_client parts name ≡ true → Contains (clients parts) name
client_there parts name e = Contains-from_any (λ x y. (bytes_eq-Decides x y).0) name (clients parts) (sym (any_client parts name) ∙ e)

client_found : (parts : List Part) (name : List ℕ) → Contains (clients parts) name → has_client parts name ≡ true
client_found parts name there = any_client parts name ∙ list_any-from_Contains nat_list_eq_equiv name (clients parts) there

client_missing : (parts : List Part) (name : List ℕ) → has_client parts name ≡ false → Contains (clients parts) name → ⊥
client_missing parts name e there = let found = client_found parts name there in cc

not_there : (parts : List Part) (name : List ℕ) → (Contains (clients parts) name → ⊥) → has_client parts name ≡ false
not_there parts name missing =
    elim (either (has_client parts name)) [
      | inl so ↦ absurd (missing (client_there parts name so))
      | inr other ↦ other
    ]

-- ---- what stays true of the parts

-- no client twice, and few enough
pub record Fits (parts : List Part) : Type 0 where
  pub distinct : AllPairs ◌≢◌ (clients parts)
  pub few : length parts ≤ MOST_CLIENTS

-- the statement comes after the others
pub record Placed (old : List Part) (s : Statement) (new : List Part) : Type 0 where
  pub statements : flat_map statements_of new ≡ flat_map statements_of old ++ s ∷ []
  pub fits : Fits new

distinct_more : (names : List (List ℕ)) (name : List ℕ) → AllPairs ◌≢◌ names → (Contains names name → ⊥) → AllPairs ◌≢◌ (names ++ name ∷ [])
distinct_more names name distinct missing = all_pairs_push ◌≢◌ names name distinct (λ k d lt e. missing (subst (λ (x : List ℕ). Contains names x) e (Contains-get_or names k d lt)))

client_placed : (parts new : List Part) (name : List ℕ) → Fits parts → with_client parts name ≡ Ok new → Placed parts (statement.Client name) new
unfolding with_client
client_placed parts new name fits e =
    elim (chosen (has_client parts name) (Err ClientTwice) (cond (ltb (length parts) MOST_CLIENTS) (Ok (parts ++ record { client = name; commands = [] } ∷ [])) (Err ManyClients)) (Ok new) e) [
      | inl there ↦ absurd cc
      | inr missing ↦ elim (chosen (ltb (length parts) MOST_CLIENTS) (Ok (parts ++ record { client = name; commands = [] } ∷ [])) (Err ManyClients) (Ok new) missing.1) [
        | inl room ↦
            let part : Part = record { client = name; commands = [] } in
            let is = ok_is (parts ++ part ∷ []) new room.1 in
            let lt = ltb-true _ _ room.0 in
            subst (λ (x : List Part). Placed parts (statement.Client name) x) is (record {
              statements = flat_map-append statements_of parts (part ∷ []);
              fits = record { distinct = rw map_push (distinct_more (clients parts) name fits.distinct (client_missing parts name missing.0)); few = omega (arith, length_push parts part) };
            })
        | inr full ↦ absurd cc
      ]
    ]

-- the parts have one more command at their end
record Commanded (old : List Part) (c : Command) (new : List Part) : Type 0 where
  statements : flat_map statements_of new ≡ flat_map statements_of old ++ statement.Command c ∷ []
  clients : clients new ≡ clients old

command_placed : (parts new : List Part) (c : Command) → with_command parts c ≡ Ok new → Commanded parts c new
unfolding with_command
command_placed [] new c e = absurd cc
command_placed (part ∷ []) new c e =
    let one_more : flat_map statements_of (with_one part c ∷ []) ≡ flat_map statements_of (part ∷ []) ++ statement.Command c ∷ [] =
    append-nil (statements_of (with_one part c)) ∙ ap (λ (x : List Statement). statement.Client part.client ∷ x) (map_push (λ x. statement.Command x) part.commands c) ∙ sym (ap (λ (x : List Statement). x ++ statement.Command c ∷ []) (append-nil (statements_of part))) in
    subst (λ (x : List Part). Commanded (part ∷ []) c x) (ok_is (with_one part c ∷ []) new e) (record { statements = one_more; clients = refl })
command_placed (part ∷ second ∷ others) new c e =
    let b = bind_ok (with_command (second ∷ others) c) (λ (rest : List Part). Ok (part ∷ rest)) new e in
    let more = command_placed (second ∷ others) b.0 c b.1 in
    let grouped : flat_map statements_of (part ∷ b.0) ≡ flat_map statements_of (part ∷ second ∷ others) ++ statement.Command c ∷ [] =
    ap (λ (x : List Statement). statements_of part ++ x) more.statements ∙ sym (append_assoc (statements_of part) (flat_map statements_of (second ∷ others)) (statement.Command c ∷ [])) in
    subst (λ (x : List Part). Commanded (part ∷ second ∷ others) c x) (ok_is (part ∷ b.0) new b.2) (record { statements = grouped; clients = ap (λ (x : List (List ℕ)). part.client ∷ x) more.clients })

pub statement_placed : (parts new : List Part) (s : Statement) → Fits parts → with_statement parts s ≡ Ok new → Placed parts s new
unfolding with_statement
statement_placed parts new (statement.Client name) fits e = client_placed parts new name fits e
statement_placed parts new (statement.Command c) fits e =
    let more = command_placed parts new c e in
    record {
      statements = more.statements;
      fits = record { distinct = rw more.clients fits.distinct; few = omega (arith, fits.few, length-map new (λ (part : Part). part.client), length-map parts (λ (part : Part). part.client), ap length more.clients) };
    }

-- ---- a statement that is statement_refused

command_refused : (parts : List Part) (c : Command) (why : Why) → with_command parts c ≡ Err why → (parts ≡ []) × (NoClient ≡ why)
unfolding with_command
command_refused [] c why e = (refl, err_is {A = List Part} NoClient why e)
command_refused (part ∷ []) c why e = absurd cc
command_refused (part ∷ second ∷ others) c why e =
    elim (bind_err (with_command (second ∷ others) c) (λ (rest : List Part). Ok (part ∷ rest)) why e) [
      | inl fails ↦ let nothing = command_refused (second ∷ others) c why fails in absurd cc
      | inr takes ↦ absurd (ok_or_err (part ∷ takes.0) why takes.2)
    ]

client_refused : (parts : List Part) (name : List ℕ) (why : Why) → Fits parts → with_client parts name ≡ Err why → IsMisplaced parts (statement.Client name) why
unfolding with_client
client_refused parts name why fits e =
    elim (chosen (has_client parts name) (Err ClientTwice) (cond (ltb (length parts) MOST_CLIENTS) (Ok (parts ++ record { client = name; commands = [] } ∷ [])) (Err ManyClients)) (Err why) e) [
      | inl there ↦ subst (λ (x : Why). IsMisplaced parts (statement.Client name) x) (err_is {A = List Part} ClientTwice why there.1) (client_there parts name there.0)
      | inr missing ↦ elim (chosen (ltb (length parts) MOST_CLIENTS) (Ok (parts ++ record { client = name; commands = [] } ∷ [])) (Err ManyClients) (Err why) missing.1) [
        | inl room ↦ absurd cc
        | inr full ↦
            let many = ltb-false _ _ full.0 in
            subst (λ (x : Why). IsMisplaced parts (statement.Client name) x) (err_is {A = List Part} ManyClients why full.1) (client_missing parts name missing.0, omega (arith, fits.few))
      ]
    ]

pub statement_refused : (parts : List Part) (s : Statement) (why : Why) → Fits parts → with_statement parts s ≡ Err why → IsMisplaced parts s why
unfolding with_statement
statement_refused parts (statement.Client name) why fits e = client_refused parts name why fits e
statement_refused parts (statement.Command c) why fits e =
    let nothing = command_refused parts c why e in
    subst (λ (x : Why). IsMisplaced parts (statement.Command c) x) nothing.1 nothing.0

pub refused_again : (parts : List Part) (s : Statement) (why : Why) → IsMisplaced parts s why → with_statement parts s ≡ Err why
unfolding with_statement with_client with_command
refused_again parts (statement.Command c) NoClient misplaced = rw misplaced refl
refused_again parts (statement.Client name) ClientTwice misplaced = let there = client_found parts name misplaced in rw there refl
refused_again parts (statement.Client name) ManyClients misplaced =
    let missing = not_there parts name misplaced.0 in
    let full : ltb (length parts) MOST_CLIENTS ≡ false = le-ltb _ _ (omega (arith, misplaced.1)) in
    rw (missing, full) refl
refused_again parts s why misplaced = absurd misplaced

-- ---- a statement that has its place

client_of : Statement → Option (List ℕ)
client_of (statement.Client name) = Some name
client_of (statement.Command c) = None

commands_name_none : (cs : List Command) (rest : List Statement) → filter_map client_of (map (λ c. statement.Command c) cs ++ rest) ≡ filter_map client_of rest
unfolding client_of
commands_name_none [] rest = refl
commands_name_none (c ∷ cs) rest = commands_name_none cs rest

clients_named : (parts : List Part) → filter_map client_of (flat_map statements_of parts) ≡ clients parts
unfolding client_of
clients_named [] = refl
clients_named (part ∷ parts) = ap (λ (x : List (List ℕ)). part.client ∷ x) (commands_name_none part.commands (flat_map statements_of parts) ∙ clients_named parts)

-- the clients of parts that go on with one more
clients_go_on : (parts target : List Part) (name : List ℕ) (rest : List Statement) → flat_map statements_of parts ++ statement.Client name ∷ rest ≡ flat_map statements_of target → clients target ≡ clients parts ++ name ∷ filter_map client_of rest
unfolding client_of
clients_go_on parts target name rest e =
    sym (clients_named target) ∙ ap (λ (x : List Statement). filter_map client_of x) (sym e) ∙ filter_map-append client_of (flat_map statements_of parts) (statement.Client name ∷ rest) ∙ ap (λ (x : List (List ℕ)). x ++ name ∷ filter_map client_of rest) (clients_named parts)

begins_with_client : (parts : List Part) (c : Command) (rest : List Statement) → statement.Command c ∷ rest ≡ flat_map statements_of parts → ⊥
begins_with_client [] c rest e = cc
begins_with_client (part ∷ parts) c rest e = cc

twice : (names rest : List (List ℕ)) (name : List ℕ) → AllPairs ◌≢◌ (names ++ name ∷ rest) → Contains names name → ⊥
twice names rest name distinct there =
    let within : length names < length (names ++ name ∷ rest) = omega (arith, length-append names (name ∷ rest)) in
    distinct there.0 (length names) name there.1 within (get_or-append names (name ∷ rest) name there.0 there.1 ∙ there.2 ∙ sym (get_or-append_seam names name rest name))

-- where it is misplaced, no parts go on with it
pub never_goes_on : (parts target : List Part) (s : Statement) (why : Why) (rest : List Statement) → IsMisplaced parts s why → Fits target → flat_map statements_of parts ++ s ∷ rest ≡ flat_map statements_of target → ⊥
never_goes_on parts target (statement.Command c) NoClient rest misplaced fits e = begins_with_client target c rest (ap (λ (x : List Part). flat_map statements_of x ++ statement.Command c ∷ rest) (sym misplaced) ∙ e)
never_goes_on parts target (statement.Client name) ClientTwice rest misplaced fits e =
    twice (clients parts) (filter_map client_of rest) name (rw (← clients_go_on parts target name rest e) fits.distinct) misplaced
never_goes_on parts target (statement.Client name) ManyClients rest misplaced fits e =
    omega (arith, fits.few, misplaced.1, ap length (clients_go_on parts target name rest e), length-append (clients parts) (name ∷ filter_map client_of rest), length-map parts (λ (part : Part). part.client), length-map target (λ (part : Part). part.client))
never_goes_on parts target s why rest misplaced fits e = absurd misplaced

placed_by : (parts target : List Part) (s : Statement) (rest : List Statement) (read : Result (List Part) Why) → Fits parts → Fits target → flat_map statements_of parts ++ s ∷ rest ≡ flat_map statements_of target → with_statement parts s ≡ read → (new : List Part) × (with_statement parts s ≡ Ok new)
placed_by parts target s rest (Ok new) fits aim e is = (new, is)
placed_by parts target s rest (Err why) fits aim e is = absurd (never_goes_on parts target s why rest (statement_refused parts s why fits is) aim e)

-- where parts go on with it, it is statement_placed
pub placed_again : (parts target : List Part) (s : Statement) (rest : List Statement) → Fits parts → Fits target → flat_map statements_of parts ++ s ∷ rest ≡ flat_map statements_of target → (new : List Part) × (with_statement parts s ≡ Ok new)
placed_again parts target s rest fits aim e = placed_by parts target s rest (with_statement parts s) fits aim e refl

-- ---- statements spell one list of parts

same_commands : (cs ds : List Command) (ps qs : List Part) → map (λ c. statement.Command c) cs ++ flat_map statements_of ps ≡ map (λ c. statement.Command c) ds ++ flat_map statements_of qs → (cs ≡ ds) × (flat_map statements_of ps ≡ flat_map statements_of qs)
same_commands [] [] ps qs e = (refl, e)
same_commands [] (d ∷ ds) ps qs e = absurd (begins_with_client ps d (map (λ c. statement.Command c) ds ++ flat_map statements_of qs) (sym e))
same_commands (c ∷ cs) [] ps qs e = absurd (begins_with_client qs c (map (λ c. statement.Command c) cs ++ flat_map statements_of ps) e)
same_commands (c ∷ cs) (d ∷ ds) ps qs e =
    let first : c ≡ d = cc in
    let others = same_commands cs ds ps qs (cc) in
    (ap (λ (x : Command). x ∷ cs) first ∙ ap (λ (x : List Command). d ∷ x) others.0, others.1)

pub one_list_of_parts : (ps qs : List Part) → flat_map statements_of ps ≡ flat_map statements_of qs → ps ≡ qs
one_list_of_parts [] [] e = refl
one_list_of_parts [] (q ∷ qs) e = absurd cc
one_list_of_parts (p ∷ ps) [] e = absurd cc
one_list_of_parts (p ∷ ps) (q ∷ qs) e =
    let client : p.client ≡ q.client = cc in
    let commands = same_commands p.commands q.commands ps qs (cc) in
    let part : p ≡ q = ap (λ (x : List ℕ). record p { client = x }) client ∙ ap (λ (x : List Command). record q { commands = x }) commands.0 in
    ap (λ (x : Part). x ∷ ps) part ∙ ap (λ (x : List Part). q ∷ x) (one_list_of_parts ps qs commands.1)
