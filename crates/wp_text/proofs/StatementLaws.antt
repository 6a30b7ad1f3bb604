-- Words that are read as a statement are its words, and its words are read as it.
use Rattle.std.proofs.Common.{◌≡◌, ℕ, Bool, true, false, cond, ◌&&◌, if◌then◌else◌, List, [], ◌∷◌, Option, Some, None, Result, Ok, Err, codes, refl, sym, ap, subst, ◌∙◌, inl, inr, ◌⊎◌}
use Rattle.std.specs.List.{find, list_all}
use Rattle.std.specs.Str.{bytes_eq}
use Rattle.std.specs.Cmp.Lexicographic.{same_text}
use Rattle.wp_model.specs.declared.word.TheConstants.{MOST_KEY_BYTES, MOST_NAME_BYTES, MOST_VALUE_BYTES}
use Rattle.wp_model.specs.Word.{is_word, is_key, is_value, is_name}
use Rattle.wp_text.specs.declared.fault.Why.{Why}
use Rattle.wp_text.specs.declared.fault.Why.TheVariants.{BadCommand, BadWord}
use Rattle.wp_text.specs.declared.keyword.Bare.TheVariants as bare
use Rattle.wp_text.specs.declared.keyword.Keyword.{Keyword}
use Rattle.wp_text.specs.declared.keyword.Keyword.TheVariants as keyword
use Rattle.wp_text.specs.declared.keyword.Named.TheVariants as named
use Rattle.wp_text.specs.declared.keyword.TheConstants.{KEYWORDS}
use Rattle.wp_text.specs.declared.line.Statement.{Statement}
use Rattle.wp_text.specs.declared.line.Statement.TheVariants as statement
use Rattle.wp_text.specs.declared.script.Command.{Command}
use Rattle.wp_text.specs.declared.script.Command.TheVariants as command
use Rattle.wp_text.specs.Grammar.{command_words, statement_words, is_formed, IsWrittenWith, is_command_in_range, is_in_range, is_passed_over, Say}
use Rattle.wp_text.specs.Names.{may_be_settled}
use Rattle.wp_text.specs.Faults.{IsNoStatement, IsOutOfRange, AreWrong}
use Rattle.wp_fields.specs.Reading.{◌>>=◌}
use Rattle.wp_text.specs.Reading.{keyword_text, keyword_named, one_word, two_words, alone, get_with, scan_with, names_of, settled_names, statement_with, statement_named, statement_of}
use Rattle.wp_fields.proofs.Results.{bind_ok, bind_err, chosen, failed, ok_is, err_is, ok_or_err, either}

-- ---- a statement's words are read as it, or are out of range

-- a word that passes a test goes on to a statement
tested : {A : Type 0} (b : Bool) (x : A) (f : A → Statement) → ((if b then Ok x else Err BadWord) >>= λ a. Ok (f a)) >>= (λ s. Ok (Some s)) ≡ cond b (Ok (Some (f x))) (Err BadWord)
tested true x f = refl
tested false x f = refl

tested_twice : {A B : Type 0} (b c : Bool) (x : A) (y : B) (f : A → B → Statement) → ((if b then Ok x else Err BadWord) >>= λ a. (if c then Ok y else Err BadWord) >>= λ w. Ok (f a w)) >>= (λ s. Ok (Some s)) ≡ cond (b && c) (Ok (Some (f x y))) (Err BadWord)
tested_twice true true x y f = refl
tested_twice true false x y f = refl
tested_twice false c x y f = refl

words_again : (s : Statement) → is_formed s ≡ true → statement_of (statement_words s) ≡ cond (is_in_range s) (Ok (Some s)) (Err BadWord)
unfolding statement_of statement_named keyword_named statement_with alone get_with scan_with settled_names names_of one_word two_words
words_again (statement.Client name) formed = tested (is_name name) name (λ w. statement.Client w)
words_again (statement.Command (command.Put key value)) formed = tested (is_key key && is_value value) (key, value) (λ both. statement.Command (command.Put both.0 both.1))
words_again (statement.Command (command.Del key)) formed = tested (is_key key) key (λ w. statement.Command (command.Del w))
words_again (statement.Command (command.Get key)) formed = tested (is_key key) key (λ w. statement.Command (command.Get w))
words_again (statement.Command (command.GetAt key name)) formed = tested (is_key key && is_name name) (key, name) (λ both. statement.Command (command.GetAt both.0 both.1))
words_again (statement.Command (command.Scan from to)) formed = tested (is_key from && is_key to) (from, to) (λ both. statement.Command (command.Scan both.0 both.1))
words_again (statement.Command (command.ScanAt from to name)) formed = tested_twice (is_key from && is_key to) (is_name name) (from, to) name (λ both label. statement.Command (command.ScanAt both.0 both.1 label))
words_again (statement.Command (command.Snap name)) formed = tested (is_name name) name (λ w. statement.Command (command.Snap w))
words_again (statement.Command (command.Free name)) formed = tested (is_name name) name (λ w. statement.Command (command.Free w))
words_again (statement.Command (command.Begin name)) formed = tested (is_name name) name (λ w. statement.Command (command.Begin w))
words_again (statement.Command command.Pin) formed = refl
words_again (statement.Command (command.Lock key)) formed = tested (is_key key) key (λ w. statement.Command (command.Lock w))
words_again (statement.Command command.Prepare) formed = refl
words_again (statement.Command command.Commit) formed = refl
words_again (statement.Command command.Rollback) formed = refl
words_again (statement.Command command.Leave) formed = refl
words_again (statement.Command (command.Take name)) formed = tested (is_name name) name (λ w. statement.Command (command.Take w))
words_again (statement.Command (command.Settle names)) formed = rw formed (tested (list_all is_name names) names (λ ws. statement.Command (command.Settle ws)))
words_again (statement.Command command.Flush) formed = refl
words_again (statement.Command command.Compact) formed = refl
words_again (statement.Command command.Renew) formed = refl
words_again (statement.Command (command.Tell name)) formed = tested (is_name name) name (λ w. statement.Command (command.Tell w))
words_again (statement.Command (command.Hear name)) formed = tested (is_name name) name (λ w. statement.Command (command.Hear w))

pub in_range_again : (s : Statement) → is_formed s ≡ true → is_in_range s ≡ true → statement_of (statement_words s) ≡ Ok (Some s)
in_range_again s formed range = words_again s formed ∙ ap (λ (b : Bool). cond b (Ok (Some s)) (Err BadWord)) range

pub out_of_range_again : (s : Statement) → is_formed s ≡ true → is_in_range s ≡ false → statement_of (statement_words s) ≡ Err BadWord
out_of_range_again s formed range = words_again s formed ∙ ap (λ (b : Bool). cond b (Ok (Some s)) (Err BadWord)) range

-- ---- words after a keyword

one_word_takes : (most : ℕ) (words : List (List ℕ)) (w : List ℕ) → one_word most words ≡ Ok w → (words ≡ w ∷ []) × (is_word most w ≡ true)
unfolding one_word
one_word_takes most [] w e = absurd cc
one_word_takes most (word ∷ []) w e =
    elim (chosen (is_word most word) (Ok word) (Err BadWord) (Ok w) e) [
      | inl so ↦ let same = ok_is word w so.1 in (ap (λ (x : List ℕ). x ∷ []) same, rw (← same) so.0)
      | inr other ↦ absurd cc
    ]
one_word_takes most (word ∷ second ∷ words) w e = absurd cc

one_word_fails : (most : ℕ) (words : List (List ℕ)) (why : Why) → one_word most words ≡ Err why → (why ≡ BadCommand) ⊎ ((why ≡ BadWord) × ((w : List ℕ) × (words ≡ w ∷ []) × (is_word most w ≡ false)))
unfolding one_word
one_word_fails most [] why e = inl cc
one_word_fails most (word ∷ []) why e =
    elim (chosen (is_word most word) (Ok word) (Err BadWord) (Err why) e) [
      | inl so ↦ absurd cc
      | inr other ↦ inr (cc, (word, refl, other.0))
    ]
one_word_fails most (word ∷ second ∷ words) why e = inl cc

two_words_take : (most_first most_second : ℕ) (words : List (List ℕ)) (both : List ℕ × List ℕ) → two_words most_first most_second words ≡ Ok both → (words ≡ both.0 ∷ both.1 ∷ []) × ((is_word most_first both.0 && is_word most_second both.1) ≡ true)
unfolding two_words
two_words_take most_first most_second [] both e = absurd cc
two_words_take most_first most_second (first ∷ []) both e = absurd cc
two_words_take most_first most_second (first ∷ second ∷ []) both e =
    elim (chosen (is_word most_first first && is_word most_second second) (Ok (first, second)) (Err BadWord) (Ok both) e) [
      | inl so ↦ let same = ok_is (first, second) both so.1 in (ap (λ (p : List ℕ × List ℕ). p.0 ∷ p.1 ∷ []) same, rw (← same) so.0)
      | inr other ↦ absurd cc
    ]
two_words_take most_first most_second (first ∷ second ∷ third ∷ words) both e = absurd cc

two_words_fail : (most_first most_second : ℕ) (words : List (List ℕ)) (why : Why) → two_words most_first most_second words ≡ Err why → (why ≡ BadCommand) ⊎ ((why ≡ BadWord) × ((first second : List ℕ) × (words ≡ first ∷ second ∷ []) × ((is_word most_first first && is_word most_second second) ≡ false)))
unfolding two_words
two_words_fail most_first most_second [] why e = inl cc
two_words_fail most_first most_second (first ∷ []) why e = inl cc
two_words_fail most_first most_second (first ∷ second ∷ []) why e =
    elim (chosen (is_word most_first first && is_word most_second second) (Ok (first, second)) (Err BadWord) (Err why) e) [
      | inl so ↦ absurd cc
      | inr other ↦ inr (cc, (first, second, refl, other.0))
    ]
two_words_fail most_first most_second (first ∷ second ∷ third ∷ words) why e = inl cc

-- the words are this statement's, in range
abbrev Written : List (List ℕ) → Statement → Type 0
Written words s = IsWrittenWith s words × (is_in_range s ≡ true)

-- what reading the words gives: the statement that is written with them, or what is wrong with them
record ReadsStatement (words : List (List ℕ)) (read : Result Statement Why) : Type 0 where
  takes : (s : Statement) → read ≡ Ok s → Written words s
  fails : (why : Why) → read ≡ Err why → (why ≡ BadCommand) ⊎ ((why ≡ BadWord) × IsOutOfRange words)

-- one word after the keyword
one_word_read : (most : ℕ) (text : List ℕ) (make : List ℕ → Statement) (made : (w : List ℕ) → (statement_words (make w) ≡ text ∷ w ∷ []) × (is_formed (make w) ≡ true) × (is_in_range (make w) ≡ is_word most w))
    → (words : List (List ℕ)) → ReadsStatement (text ∷ words) (one_word most words >>= λ w. Ok (make w))
one_word_read most text make made words = record {
  takes = λ s e.
      let b = bind_ok (one_word most words) (λ w. Ok (make w)) s e in
      let t = one_word_takes most words b.0 b.1 in
      subst (λ (x : Statement). Written (text ∷ words) x) (ok_is (make b.0) s b.2) ((ap (λ (x : List (List ℕ)). text ∷ x) t.0 ∙ sym (made b.0).0, (made b.0).1), (made b.0).2 ∙ t.1);
  fails = λ why e. elim (bind_err (one_word most words) (λ w. Ok (make w)) why e) [
    | inl first ↦ elim (one_word_fails most words why first) [
      | inl command ↦ inl command
      | inr word ↦ let w = word.1.0 in inr (word.0, record { statement = make w; written = (ap (λ (x : List (List ℕ)). text ∷ x) word.1.1 ∙ sym (made w).0, (made w).1); range = (made w).2 ∙ word.1.2 })
    ]
    | inr second ↦ absurd (ok_or_err (make second.0) why second.2)
  ];
}

-- two words, which all words are made of
two_words_read : (most_first most_second : ℕ) (all words : List (List ℕ)) (make : List ℕ → List ℕ → Statement)
    → (made : (a b : List ℕ) → words ≡ a ∷ b ∷ [] → IsWrittenWith (make a b) all × (is_in_range (make a b) ≡ (is_word most_first a && is_word most_second b)))
    → ReadsStatement all (two_words most_first most_second words >>= λ both. Ok (make both.0 both.1))
two_words_read most_first most_second all words make made = record {
  takes = λ s e.
      let b = bind_ok (two_words most_first most_second words) (λ both. Ok (make both.0 both.1)) s e in
      let t = two_words_take most_first most_second words b.0 b.1 in
      let m = made b.0.0 b.0.1 t.0 in
      subst (λ (x : Statement). Written all x) (ok_is (make b.0.0 b.0.1) s b.2) (m.0, m.1 ∙ t.1);
  fails = λ why e. elim (bind_err (two_words most_first most_second words) (λ both. Ok (make both.0 both.1)) why e) [
    | inl first ↦ elim (two_words_fail most_first most_second words why first) [
      | inl command ↦ inl command
      | inr word ↦ let m = made word.1.0 word.1.1 word.1.2 in inr (word.0, record { statement = make word.1.0 word.1.1; written = m.0; range = m.1 ∙ word.1.3 })
    ]
    | inr second ↦ absurd (ok_or_err (make second.0.0 second.0.1) why second.2)
  ];
}

-- nothing after the keyword
alone_read : (text : List ℕ) (c : Command) → (command_words c ≡ text ∷ []) × (is_formed (statement.Command c) ≡ true) × (is_command_in_range c ≡ true) → (words : List (List ℕ)) → ReadsStatement (text ∷ words) (alone c words)
unfolding alone
alone_read text c made [] = record {
  takes = λ s e. subst (λ (x : Statement). Written (text ∷ []) x) (ok_is (statement.Command c) s e) ((sym made.0, made.1), made.2);
  fails = λ why e. absurd (ok_or_err (statement.Command c) why e);
}
alone_read text c made (word ∷ words) = record {
  takes = λ s e. absurd cc;
  fails = λ why e. inl cc;
}

-- a key, the word `at` and a name
get_at_read : (key at name : List ℕ) → ReadsStatement (codes "get" ∷ key ∷ at ∷ name ∷ []) (get_with (key ∷ at ∷ name ∷ []))
unfolding get_with
get_at_read key at name =
    elim (either (bytes_eq at (codes "at"))) [
      | inl so ↦
          let is : at ≡ codes "at" = same_text at (codes "at") (sym so) in
          rw so (two_words_read MOST_KEY_BYTES MOST_NAME_BYTES (codes "get" ∷ key ∷ at ∷ name ∷ []) (key ∷ name ∷ []) (λ a b. statement.Command (command.GetAt a b)) (λ a b e. ((cc, refl), refl)))
      | inr other ↦ rw other (record { takes = λ s e. absurd cc; fails = λ why e. inl cc })
    ]

get_read : (words : List (List ℕ)) → ReadsStatement (codes "get" ∷ words) (get_with words)
unfolding get_with
get_read (key ∷ at ∷ name ∷ []) = get_at_read key at name
get_read words = one_word_read MOST_KEY_BYTES (codes "get") (λ w. statement.Command (command.Get w)) (λ w. (refl, refl, refl)) words

-- two keys, the word `at` and a name
module _ (from to at name : List ℕ) (is : at ≡ codes "at") where
  abbrev scanned : Statement
  scanned = statement.Command (command.ScanAt from to name)

  abbrev all : List (List ℕ)
  all = codes "scan" ∷ from ∷ to ∷ at ∷ name ∷ []

  written : IsWrittenWith scanned all
  written = (ap (λ (word : List ℕ). codes "scan" ∷ from ∷ to ∷ word ∷ name ∷ []) is, refl)

  abbrev scan_words : Bool → Bool → Result Statement Why
  scan_words b c =
      let keys : Result (List ℕ × List ℕ) Why = if b then Ok (from, to) else Err BadWord in
      keys >>= λ both. (if c then Ok name else Err BadWord) >>= λ label. Ok (statement.Command (command.ScanAt both.0 both.1 label))

  scan_tested : (b c : Bool) → (is_key from && is_key to) ≡ b → is_name name ≡ c → ReadsStatement all (scan_words b c)
  scan_tested true true keys label = record {
    takes = λ s e. subst (λ (x : Statement). Written all x) (ok_is scanned s e) (written, (λ i. keys i && label i));
    fails = λ why e. absurd (ok_or_err scanned why e);
  }
  scan_tested true false keys label = record {
    takes = λ s e. absurd cc;
    fails = λ why e. inr (cc, record { statement = scanned; written = written; range = λ i. keys i && label i });
  }
  scan_tested false c keys label = record {
    takes = λ s e. absurd cc;
    fails = λ why e. inr (cc, record { statement = scanned; written = written; range = λ i. keys i && is_name name });
  }

scan_at_read : (from to at name : List ℕ) → ReadsStatement (codes "scan" ∷ from ∷ to ∷ at ∷ name ∷ []) (scan_with (from ∷ to ∷ at ∷ name ∷ []))
unfolding scan_with one_word two_words
scan_at_read from to at name =
    elim (either (bytes_eq at (codes "at"))) [
      | inl so ↦ rw so (scan_tested from to at name (same_text at (codes "at") (sym so)) (is_key from && is_key to) (is_name name) refl refl)
      | inr other ↦ rw other (record { takes = λ s e. absurd cc; fails = λ why e. inl cc })
    ]

scan_read : (words : List (List ℕ)) → ReadsStatement (codes "scan" ∷ words) (scan_with words)
unfolding scan_with
scan_read (from ∷ to ∷ at ∷ name ∷ []) = scan_at_read from to at name
scan_read words = two_words_read MOST_KEY_BYTES MOST_KEY_BYTES (codes "scan" ∷ words) words (λ a b. statement.Command (command.Scan a b)) (λ a b e. ((ap (λ (x : List (List ℕ)). codes "scan" ∷ x) e, refl), refl))

-- the names that one command settles
abbrev settle_words : List (List ℕ) → Bool → Bool → Result Statement Why
settle_words words formed range =
    let names : Result (List (List ℕ)) Why = if formed then (if range then Ok words else Err BadWord) else Err BadCommand in
    names >>= λ names. Ok (statement.Command (command.Settle names))

settle_read : (words : List (List ℕ)) → ReadsStatement (codes "settle" ∷ words) (settled_names words >>= λ names. Ok (statement.Command (command.Settle names)))
unfolding settled_names names_of
settle_read words = by (may_be_settled words) refl (list_all is_name words) refl
  where
    settles : Statement
    settles = statement.Command (command.Settle words)

    by : (formed : Bool) → may_be_settled words ≡ formed → (range : Bool) → list_all is_name words ≡ range → ReadsStatement (codes "settle" ∷ words) (settle_words words formed range)
    by true formed true range = record {
      takes = λ s e. subst (λ (x : Statement). Written (codes "settle" ∷ words) x) (ok_is settles s e) ((refl, formed), range);
      fails = λ why e. absurd (ok_or_err settles why e);
    }
    by true formed false range = record {
      takes = λ s e. absurd cc;
      fails = λ why e. inr (cc, record { statement = settles; written = (refl, formed); range = range });
    }
    by false formed range is = record { takes = λ s e. absurd cc; fails = λ why e. inl cc }

after_keyword : (k : Keyword) (words : List (List ℕ)) → ReadsStatement (keyword_text k ∷ words) (statement_with k words)
unfolding statement_with
after_keyword (keyword.Named named.Client) words = one_word_read MOST_NAME_BYTES (keyword_text (keyword.Named named.Client)) (λ w. statement.Client w) (λ w. (refl, refl, refl)) words
after_keyword keyword.Put words = two_words_read MOST_KEY_BYTES MOST_VALUE_BYTES (keyword_text keyword.Put ∷ words) words (λ a b. statement.Command (command.Put a b)) (λ a b e. ((ap (λ (x : List (List ℕ)). keyword_text keyword.Put ∷ x) e, refl), refl))
after_keyword keyword.Del words = one_word_read MOST_KEY_BYTES (keyword_text keyword.Del) (λ w. statement.Command (command.Del w)) (λ w. (refl, refl, refl)) words
after_keyword keyword.Get words = get_read words
after_keyword keyword.Scan words = scan_read words
after_keyword (keyword.Named named.Snap) words = one_word_read MOST_NAME_BYTES (keyword_text (keyword.Named named.Snap)) (λ w. statement.Command (command.Snap w)) (λ w. (refl, refl, refl)) words
after_keyword (keyword.Named named.Free) words = one_word_read MOST_NAME_BYTES (keyword_text (keyword.Named named.Free)) (λ w. statement.Command (command.Free w)) (λ w. (refl, refl, refl)) words
after_keyword (keyword.Named named.Begin) words = one_word_read MOST_NAME_BYTES (keyword_text (keyword.Named named.Begin)) (λ w. statement.Command (command.Begin w)) (λ w. (refl, refl, refl)) words
after_keyword (keyword.Bare bare.Pin) words = alone_read (keyword_text (keyword.Bare bare.Pin)) command.Pin (refl, refl, refl) words
after_keyword keyword.Lock words = one_word_read MOST_KEY_BYTES (keyword_text keyword.Lock) (λ w. statement.Command (command.Lock w)) (λ w. (refl, refl, refl)) words
after_keyword keyword.Settle words = settle_read words
after_keyword (keyword.Bare bare.Prepare) words = alone_read (keyword_text (keyword.Bare bare.Prepare)) command.Prepare (refl, refl, refl) words
after_keyword (keyword.Bare bare.Commit) words = alone_read (keyword_text (keyword.Bare bare.Commit)) command.Commit (refl, refl, refl) words
after_keyword (keyword.Bare bare.Rollback) words = alone_read (keyword_text (keyword.Bare bare.Rollback)) command.Rollback (refl, refl, refl) words
after_keyword (keyword.Bare bare.Leave) words = alone_read (keyword_text (keyword.Bare bare.Leave)) command.Leave (refl, refl, refl) words
after_keyword (keyword.Named named.Take) words = one_word_read MOST_NAME_BYTES (keyword_text (keyword.Named named.Take)) (λ w. statement.Command (command.Take w)) (λ w. (refl, refl, refl)) words
after_keyword (keyword.Bare bare.Flush) words = alone_read (keyword_text (keyword.Bare bare.Flush)) command.Flush (refl, refl, refl) words
after_keyword (keyword.Bare bare.Compact) words = alone_read (keyword_text (keyword.Bare bare.Compact)) command.Compact (refl, refl, refl) words
after_keyword (keyword.Bare bare.Renew) words = alone_read (keyword_text (keyword.Bare bare.Renew)) command.Renew (refl, refl, refl) words
after_keyword (keyword.Named named.Tell) words = one_word_read MOST_NAME_BYTES (keyword_text (keyword.Named named.Tell)) (λ w. statement.Command (command.Tell w)) (λ w. (refl, refl, refl)) words
after_keyword (keyword.Named named.Hear) words = one_word_read MOST_NAME_BYTES (keyword_text (keyword.Named named.Hear)) (λ w. statement.Command (command.Hear w)) (λ w. (refl, refl, refl)) words

-- ---- all words of a line

found_passes : {X : Type 0} (p : X → Bool) (xs : List X) (x : X) → find p xs ≡ Some x → p x ≡ true
found_passes p [] x e = absurd cc
found_passes p (y ∷ ys) x e =
    elim (chosen (p y) (Some y) (find p ys) (Some x) e) [
      | inl so ↦ let same : y ≡ x = cc in rw (← same) so.0
      | inr other ↦ found_passes p ys x other.1
    ]

keyword_is : (word : List ℕ) (k : Keyword) → keyword_named word ≡ Some k → keyword_text k ≡ word
unfolding keyword_named
keyword_is word k e = same_text (keyword_text k) word (sym (found_passes (λ (k : Keyword). bytes_eq (keyword_text k) word) KEYWORDS k e))

named_says : (first : List ℕ) (others : List (List ℕ)) (k : Option Keyword) (meaning : Option Statement) → keyword_named first ≡ k → statement_named k others ≡ Ok meaning → Say (first ∷ others) meaning
unfolding statement_named
named_says first others None meaning named e = absurd cc
named_says first others (Some k) meaning named e =
    let b = bind_ok (statement_with k others) (λ s. Ok (Some s)) meaning e in
    let t = (after_keyword k others).takes b.0 b.1 in
    subst (λ (x : Option Statement). Say (first ∷ others) x) (ok_is (Some b.0) meaning b.2) (subst (λ (w : List ℕ). Written (w ∷ others) b.0) (keyword_is first k named) t)

-- what is read is what the words say
pub says : (words : List (List ℕ)) (meaning : Option Statement) → statement_of words ≡ Ok meaning → Say words meaning
unfolding statement_of
says [] meaning e = subst (λ (x : Option Statement). Say [] x) (ok_is None meaning e) refl
says (first ∷ others) meaning e =
    elim (chosen (is_passed_over (first ∷ others)) (Ok None) (statement_named (keyword_named first) others) (Ok meaning) e) [
      | inl so ↦ subst (λ (x : Option Statement). Say (first ∷ others) x) (ok_is None meaning so.1) so.0
      | inr other ↦ named_says first others (keyword_named first) meaning refl other.1
    ]

unknown : (words : List (List ℕ)) → statement_of words ≡ Err BadCommand → IsNoStatement words
unknown words e s written =
    let again : statement_of (statement_words s) ≡ Err BadCommand = ap statement_of (sym written.0) ∙ e in
    elim (either (is_in_range s)) [
      | inl so ↦ ok_or_err (Some s) BadCommand (sym (in_range_again s written.1 so) ∙ again)
      | inr other ↦ let differ : failed (Option Statement) BadWord ≡ failed (Option Statement) BadCommand = sym (out_of_range_again s written.1 other) ∙ again in absurd cc
    ]

named_refuses : (first : List ℕ) (others : List (List ℕ)) (k : Option Keyword) (why : Why) → keyword_named first ≡ k → statement_named k others ≡ Err why → statement_of (first ∷ others) ≡ Err why → AreWrong (first ∷ others) why
unfolding statement_named
named_refuses first others None why named e whole =
    let is : BadCommand ≡ why = err_is {A = Option Statement} BadCommand why e in
    subst (λ (x : Why). AreWrong (first ∷ others) x) is (unknown (first ∷ others) (rw is whole))
named_refuses first others (Some k) why named e whole =
    elim (bind_err (statement_with k others) (λ s. Ok (Some s)) why e) [
      | inl fails ↦ elim ((after_keyword k others).fails why fails) [
        | inl command ↦ subst (λ (x : Why). AreWrong (first ∷ others) x) (sym command) (unknown (first ∷ others) (rw command at whole))
        | inr word ↦ subst (λ (x : Why). AreWrong (first ∷ others) x) (sym word.0) (subst (λ (w : List ℕ). IsOutOfRange (w ∷ others)) (keyword_is first k named) word.1)
      ]
      | inr takes ↦ absurd (ok_or_err (Some takes.0) why takes.2)
    ]

-- what is statement_refused is wrong
pub words_refused : (words : List (List ℕ)) (why : Why) → statement_of words ≡ Err why → (is_passed_over words ≡ false) × AreWrong words why
unfolding statement_of
words_refused [] why e = absurd (ok_or_err None why e)
words_refused (first ∷ others) why e =
    elim (chosen (is_passed_over (first ∷ others)) (Ok None) (statement_named (keyword_named first) others) (Err why) e) [
      | inl so ↦ absurd (ok_or_err None why so.1)
      | inr other ↦ (other.0, named_refuses first others (keyword_named first) why refl other.1 e)
    ]

-- what the words say is read
pub says_again : (words : List (List ℕ)) (meaning : Option Statement) → Say words meaning → statement_of words ≡ Ok meaning
unfolding statement_of
says_again [] None said = refl
says_again (first ∷ others) None said = rw said refl
says_again words (Some s) said = ap statement_of said.0.0 ∙ in_range_again s said.0.1 said.1

only_command : (words : List (List ℕ)) (why : Why) → IsNoStatement words → AreWrong words why → why ≡ BadCommand
only_command words BadCommand none wrong = refl
only_command words BadWord none wrong = absurd (none wrong.statement wrong.written)
only_command words why none wrong = absurd wrong

unknown_by : (words : List (List ℕ)) (read : Result (Option Statement) Why) → is_passed_over words ≡ false → IsNoStatement words → statement_of words ≡ read → read ≡ Err BadCommand
unknown_by words (Ok None) counts none e = let said : is_passed_over words ≡ true = says words None e in absurd cc
unknown_by words (Ok (Some s)) counts none e = absurd (none s (says words (Some s) e).0)
unknown_by words (Err why) counts none e = ap (failed (Option Statement)) (only_command words why none (words_refused words why e).1)

-- what is wrong is statement_refused
pub unknown_again : (words : List (List ℕ)) → is_passed_over words ≡ false → IsNoStatement words → statement_of words ≡ Err BadCommand
unknown_again words counts none = unknown_by words (statement_of words) counts none refl

pub range_again : (words : List (List ℕ)) → IsOutOfRange words → statement_of words ≡ Err BadWord
range_again words out = ap statement_of out.written.0 ∙ out_of_range_again out.statement out.written.1 out.range
