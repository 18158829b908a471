-- What a parser has read so far: a front of a word, a line, a command.
use Rattle.std.proofs.Common.{◌≡◌, ℕ, ◌+◌, ◌*◌, ◌^◌, ◌<◌, ◌≤◌, zero, suc, List, [], ◌∷◌, length, take, get_or, Bool, true, false, ◌&&◌, inl, inr, ◌-◌, None, Some, nat_lt, nat_le, refl, ap, sym, ◌∙◌, arith, ◌++◌, map, drop, ◌||◌, IsTrue, Option, Ok, Err, add-one, drop-cons}
use Rattle.std.proofs.lemmas.Bool.Decides.{nat_tests}
use Rattle.std.specs.List.{list_all}
use Rattle.std.proofs.lemmas.Bool.{cases_lt, leb-true}
use Rattle.std.proofs.lemmas.List.{take_all, get_or-map, length-map}
use Rattle.std.proofs.lemmas.Str.{digit_value_digit}
use Rattle.std.specs.Char.{digit_value, is_ascii_digit}
use Rattle.std.specs.Str.Parse.{digits_value}
use Rattle.std.proofs.lemmas.Int.Digits.{digits_value_more}
use Rattle.std.proofs.lemmas.Str.Parse.{digits_value-take-le}
use Rattle.std.proofs.Math.ListN.{drop_of_length-le}
use Rattle.std.proofs.lemmas.List.Folds.{list_all-append}
use Rattle.registry_values.specs.declared.settings.Settings.{Settings}
use Rattle.registry_language.specs.Words.{number_of, is_numeral, within_u64}
use Rattle.registry_language.specs.declared.command.Command.{Command}
use Rattle.registry_language.specs.declared.command.Command.TheVariants.{Domain, Limits}
use Rattle.registry_language.specs.declared.position.Position.{Position}
use Rattle.registry_language.specs.declared.position.Position.TheVariants.{First, Second, Later}
use Rattle.registry_language.specs.declared.fault.Cause.{Cause}
use Rattle.registry_language.specs.Program.{ProgramDraft, IsProgram, AreBefore, suits, is_of_run, may_follow, position_after, with_command}
use Rattle.registry_language.specs.Grammar.{◌>>=◌, at_line, line_of, draft_of_lines}

-- What the value of a front of a word says of the word.

both : (x y : Bool) → (x && y) ≡ true → (x ≡ true) × (y ≡ true)
both true y h = (refl, h)
both false y h = (h, cc)

value_of_digit : (c : ℕ) → is_ascii_digit c ≡ true → digit_value c ≡ c - 48
value_of_digit c h =
    let p = both (nat_le 48 c) (nat_le c 57) h in
    let low : 48 ≤ c = leb-true 48 c p.0 in
    let high : c ≤ 57 = leb-true c 57 p.1 in
    omega (arith, digit_value_digit c (low, high))

digit_at : (w : List ℕ) (i : ℕ) → list_all is_ascii_digit w ≡ true → i < length w → digit_value (get_or w i 0) ≡ get_or w i 0 - 48
digit_at [] i h below = absurd (omega arith)
digit_at (c ∷ cs) zero h below = value_of_digit c (both (is_ascii_digit c) (list_all is_ascii_digit cs) h).0
digit_at (c ∷ cs) (suc i) h below = digit_at cs i (both (is_ascii_digit c) (list_all is_ascii_digit cs) h).1 (omega arith)

large : (n : ℕ) → 2 ^ 64 ≤ n → within_u64 n ≡ None
large n h = let t : nat_lt n (2 ^ 64) ≡ false = grind (arith, nat_tests) in rw t refl

small : (n : ℕ) → n < 2 ^ 64 → within_u64 n ≡ Some n
small n h = let t : nat_lt n (2 ^ 64) ≡ true = grind (arith, nat_tests) in rw t refl

is_large : (n : ℕ) → None ≡ within_u64 n → 2 ^ 64 ≤ n
is_large n h = elim (cases_lt n (2 ^ 64)) [ inl below ↦ absurd (let e = small n below in cc) | inr above ↦ above ]

is_small : (n m : ℕ) → Some m ≡ within_u64 n → m ≡ n
is_small n m h = elim (cases_lt n (2 ^ 64)) [ inl below ↦ (let e = small n below in cc) | inr above ↦ absurd (let e = large n above in cc) ]

pub below : (n m : ℕ) → Some m ≡ within_u64 n → m < 2 ^ 64
below n m h = elim (cases_lt n (2 ^ 64)) [ inl less ↦ (let e = is_small n m h in omega arith) | inr above ↦ absurd (let e = large n above in cc) ]

digits_of_numeral : (w : List ℕ) → is_numeral w ≡ true → list_all is_ascii_digit w ≡ true
digits_of_numeral w h = (both (nat_le 1 (length w) && nat_le (length w) 20) (list_all is_ascii_digit w) h).1

digit_more : (w : List ℕ) (i n : ℕ) → is_numeral w ≡ true → i < length w → n ≡ digits_value 10 (take i w) → digits_value 10 (take (i + 1) w) ≡ n * 10 + (get_or w i 0 - 48)
digit_more w i n h below e = rw (digits_value_more 10 w i below, ← e, digit_at w i (digits_of_numeral w h) below) refl

pub spent : (w : List ℕ) (i n : ℕ) → is_numeral w ≡ true → i < length w → n ≡ digits_value 10 (take i w) → None ≡ within_u64 (n * 10 + (get_or w i 0 - 48)) → None ≡ number_of w
spent w i n h below e over =
    let much : 2 ^ 64 ≤ n * 10 + (get_or w i 0 - 48) = is_large _ over in
    let less : digits_value 10 (take (i + 1) w) ≤ digits_value 10 w = digits_value-take-le 10 w (i + 1) (omega arith) in
    let step : digits_value 10 (take (i + 1) w) ≡ n * 10 + (get_or w i 0 - 48) = digit_more w i n h below e in
    rw (h, large (digits_value 10 w) (omega arith)) refl

pub gone_on : (w : List ℕ) (i n more : ℕ) → is_numeral w ≡ true → i < length w → n ≡ digits_value 10 (take i w)
    → Some more ≡ within_u64 (n * 10 + (get_or w i 0 - 48)) → more ≡ digits_value 10 (take (i + 1) w)
gone_on w i n more h below e some = is_small _ more some ∙ sym (digit_more w i n h below e)

pub all_read : (w : List ℕ) (i n : ℕ) → is_numeral w ≡ true → length w ≤ i → n ≡ digits_value 10 (take i w) → n < 2 ^ 64 → Some n ≡ number_of w
all_read w i n h whole e fits =
    let same : digits_value 10 w ≡ n = ap (digits_value 10) (sym (take_all i w whole)) ∙ sym e in
    rw (h, same, small n fits) refl

-- One line and one command more.

draft_cons : (n : ℕ) (p : ProgramDraft) (line : List ℕ) (lines : List (List ℕ))
    → draft_of_lines n p (line ∷ lines) ≡ (at_line n (line_of p.place line) >>= λ said. draft_of_lines (n + 1) (with_command p said) lines)
unfolding draft_of_lines
draft_cons n p line lines = refl

draft_at : {A : Type 0} (f : A → List ℕ) (ls : List A) (i : ℕ) (d : A) (n : ℕ) (p : ProgramDraft) → i < length ls
    → draft_of_lines n p (drop i (map f ls)) ≡
    (at_line n (line_of p.place (f (get_or ls i d))) >>= λ said. draft_of_lines (n + 1) (with_command p said) (drop (i + 1) (map f ls)))
draft_at f ls i d n p h =
    let below : i < length (map f ls) = rw length-map h in
    let here : get_or (map f ls) i [] ≡ f (get_or ls i d) = get_or-map f ls i d [] h in
    rw (add-one i, drop-cons (map f ls) i [], here) (draft_cons n p (f (get_or ls i d)) (drop (suc i) (map f ls)))

-- a line that is taken
pub draft_more : {A : Type 0} (f : A → List ℕ) (ls : List A) (i : ℕ) (d : A) (n : ℕ) (p : ProgramDraft) (said : Option Command) → i < length ls
    → line_of p.place (f (get_or ls i d)) ≡ Ok said → draft_of_lines n p (drop i (map f ls)) ≡ draft_of_lines (n + 1) (with_command p said)
    (drop (i + 1) (map f ls))
draft_more f ls i d n p said h e = draft_at f ls i d n p h ∙ rw e refl

-- a line with a fault
pub draft_fault : {A : Type 0} (f : A → List ℕ) (ls : List A) (i : ℕ) (d : A) (n : ℕ) (p : ProgramDraft) (cause : Cause) → i < length ls
    → line_of p.place (f (get_or ls i d)) ≡ Err cause → draft_of_lines n p (drop i (map f ls)) ≡ Err (record { line = n; cause = cause })
draft_fault f ls i d n p cause h e = draft_at f ls i d n p h ∙ rw e refl

-- no line is left
pub draft_all : {A : Type 0} (f : A → List ℕ) (ls : List A) (i : ℕ) (n : ℕ) (p : ProgramDraft) → length ls ≤ i → draft_of_lines n p (drop i (map f ls)) ≡ Ok p
unfolding draft_of_lines
draft_all f ls i n p h =
    let whole : length (map f ls) ≤ i = rw length-map h in
    rw (drop_of_length-le (map f ls) whole) refl

of_run_suits : (s : Settings) (command : Command) → IsTrue (is_of_run s command) → IsTrue (suits s command)
of_run_suits s (Domain cpus slots) h = cc
of_run_suits s (Limits changes sections passive count) h = cc
of_run_suits s _ h = h

one_more : (s : Settings) (commands : List Command) (command : Command) → IsProgram (record { settings = s; commands = commands })
    → IsTrue (suits s command) → IsProgram (record { settings = s; commands = commands ++ command ∷ [] })
one_more s commands command p h =
    let before : list_all (suits s) commands ≡ true = p.suited in
    record { fit = p.fit; suited = list_all-append (suits s) commands (command ∷ []) ∙ rw (before, h) refl }

or_false : (x : Bool) → (x || false) ≡ true → x ≡ true
or_false true h = refl
or_false false h = h

-- a command that may follow keeps the commands those of a program
pub one_command_more : (place : Position) (commands : List Command) (command : Command) → AreBefore place commands → IsTrue (may_follow place command)
    → AreBefore (position_after place command) (commands ++ command ∷ [])
one_command_more First commands (Domain cpus slots) e h = record { fit = h; suited = rw e refl }
one_command_more First commands _ e h = cc
one_command_more (Second s) commands (Limits changes sections passive count) p h =
    let q : IsProgram (record { settings = s; commands = commands ++ Limits changes sections passive count ∷ [] }) = one_more s commands (Limits changes sections passive count) p refl in
    record { fit = or_false _ h; suited = q.suited }
one_command_more (Second s) commands command p h = one_more s commands command p (of_run_suits s command h)
one_command_more (Later s) commands command p h = one_more s commands command p (of_run_suits s command h)
