-- What a run has written so far, and what is left: one text and one line more, over any session.
use Rattle.std.proofs.Common.{◌≡◌, ℕ, ℤ, ◌+◌, ◌<◌, List, [], ◌∷◌, ◌++◌, Option, None, Some, refl, ap, sym, ◌∙◌, append_assoc, append-nil, ◌≤◌, ◌-◌, get_or, length, map, take, drop, arith, length-drop, take-append-drop, suc, Result, Ok, Err, OnErr, add-one, drop-cons, true}
use Rattle.std.proofs.lemmas.List.{map-append, take_all, take_more}
use Rattle.std.specs.Io.KnownBytes.{Appends, Keeps}
use Rattle.std.specs.Prelude.{codes}
use Rattle.std.specs.Fmt.{decimal, signed_decimal}
use Rattle.std.proofs.Math.ListN.{drop_of_length-le}
use Rattle.registry_report.specs.Types.{Command, Freed, Domain, Limits, Plug, Enter, Exit, Find, Held, Read, Peek, Advance, Destroy, Perform, Audit}
use Rattle.registry_values.specs.Common.{Tally}
use Rattle.registry_language.specs.declared.command.Command.TheVariants.{Attach, Detach}
use Rattle.registry_report.specs.Common.{balance_line, balance_lines, spaced_words, line_of_words, Written, AppendsPrefix, Registry, after, text_of, IsLineOf, IsRunOf, WritesFront, WritesRun}
use Rattle.registry_report.specs.Report.{report_from}

-- How what is written goes together.

pub appends_none : (a : Option (List ℕ)) → Appends a a []
appends_none None = tt
appends_none (Some xs) = sym (append-nil xs)

pub appends_more : (a b c : Option (List ℕ)) (xs ys : List ℕ) → Appends a b xs → Appends b c ys → Appends a c (xs ++ ys)
appends_more None b c xs ys h k = tt
appends_more (Some ws) None c xs ys h k = absurd h
appends_more (Some ws) (Some bs) None xs ys h k = absurd k
appends_more (Some ws) (Some bs) (Some cs) xs ys h k = k ∙ ap (λ z. z ++ ys) h ∙ append_assoc ws xs ys

pub kept : (a b : Option (List ℕ)) → Keeps a b → Appends a b []
kept None b h = tt
kept (Some xs) None h = absurd h
kept (Some xs) (Some ys) h = h ∙ sym (append-nil xs)

pub written_none : (a : Option (List ℕ)) (whole : List ℕ) → Written a a whole whole
written_none a whole = record { done = []; split = refl; written = appends_none a }

pub written_more : (a b c : Option (List ℕ)) (whole part rest : List ℕ) → Written a b whole (part ++ rest) → Appends b c part → Written a c whole rest
written_more a b c whole part rest h k = record { done = h.done ++ part; split = h.split ∙ sym (append_assoc h.done part rest); written = appends_more a b c h.done part h.written k }

pub written_kept : (a b c : Option (List ℕ)) (whole rest : List ℕ) → Written a b whole rest → Keeps b c → Written a c whole rest
written_kept a b c whole rest h k = written_more a b c whole [] rest h (kept b c k)

pub written_all : (a b : Option (List ℕ)) (whole : List ℕ) → Written a b whole [] → Appends a b whole
written_all a b whole h = rw (h.split ∙ append-nil h.done) h.written

-- a prefix of the next part is a prefix of the whole
pub written_prefix : (a b c : Option (List ℕ)) (whole part rest : List ℕ) → Written a b whole (part ++ rest) → AppendsPrefix b c part → AppendsPrefix a c whole
written_prefix a b c whole part rest h (left, k) = (
  left ++ rest,
  record {
    done = h.done ++ k.done;
    split = h.split ∙ ap (λ z. h.done ++ (z ++ rest)) k.split ∙ ap (λ z. h.done ++ z) (append_assoc k.done left rest) ∙ sym (append_assoc h.done k.done (left ++ rest));
    written = appends_more a b c h.done k.done h.written k.written;
  },
)

-- n bytes of the rest are written
pub written_step : (a b c : Option (List ℕ)) (whole rest : List ℕ) (n : ℕ) → n ≤ length rest → Written a b whole rest → Appends b c (take n rest)
    → Written a c whole (take (length rest - n) (drop n rest))
written_step a b c whole rest n h done more =
    let e : take (length rest - n) (drop n rest) ≡ drop n rest = take_all (length rest - n) (drop n rest) (omega (arith, length-drop n rest)) in
    rw e (written_more a b c whole (take n rest) (drop n rest) (rw take-append-drop done) more)

-- Words and lines in a row

spaced_append : (ws : List (List ℕ)) (w : List ℕ) → spaced_words (ws ++ w ∷ []) ≡ spaced_words ws ++ (32 ∷ w)
spaced_append [] w = ap (λ z. 32 ∷ z) (append-nil w)
spaced_append (v ∷ vs) w = ap (λ z. (32 ∷ v) ++ z) (spaced_append vs w) ∙ sym (append_assoc (32 ∷ v) (spaced_words vs) (32 ∷ w))

lines_append : (ts : List Tally) (t : Tally) → balance_lines (ts ++ t ∷ []) ≡ balance_lines ts ++ balance_line t
lines_append [] t = append-nil (balance_line t)
lines_append (u ∷ us) t = ap (λ z. balance_line u ++ z) (lines_append us t) ∙ sym (append_assoc (balance_line u) (balance_lines us) (balance_line t))

-- the words before the next one
pub spelled_spaced : (w : List ℕ) (ws : List (List ℕ)) (next : List ℕ) (rest : List (List ℕ)) → line_of_words (w ∷ (ws ++ next ∷ rest)) ≡ w ++ (spaced_words ws ++ (32 ∷ line_of_words (next ∷ rest)))
spelled_spaced w [] next rest = refl
spelled_spaced w (v ∷ vs) next rest = ap (λ z. w ++ (32 ∷ z)) (spelled_spaced v vs next rest) ∙ ap (λ z. w ++ z) (sym (append_assoc (32 ∷ v) (spaced_words vs) (32 ∷ line_of_words (next ∷ rest))))

pub spaced_step : (xs : List ℤ) (i : ℕ) (d : ℤ) → i < length xs
    → spaced_words (map signed_decimal (take (i + 1) xs)) ≡ spaced_words (map signed_decimal (take i xs)) ++ (32 ∷ signed_decimal (get_or xs i d))
spaced_step xs i d below = rw (take_more xs i d below, map-append) (spaced_append (map signed_decimal (take i xs)) (signed_decimal (get_or xs i d)))

pub lines_step : {X : Type 0} (f : X → Tally) (xs : List X) (i : ℕ) (d : X) → i < length xs
    → balance_lines (map f (take (i + 1) xs)) ≡ balance_lines (map f (take i xs)) ++ balance_line (f (get_or xs i d))
lines_step f xs i d below = rw (take_more xs i d below, map-append) (lines_append (map f (take i xs)) (f (get_or xs i d)))

pub balance_is : (t : Tally) → balance_line t ≡ codes "slot "
    ++ (decimal t.slot ++ (codes " number " ++ (decimal t.number
    ++ (codes " held " ++ (signed_decimal t.held ++ (codes " locals" ++ (spaced_words (map signed_decimal t.locals) ++ (codes " total " ++ (signed_decimal t.total ++ (10 ∷ []))))))))))
balance_is t = ap (λ (z : List ℕ). codes "slot " ++ (decimal t.slot ++ (codes " number " ++ (decimal t.number ++ (codes " held " ++ (signed_decimal t.held ++ (32 ∷ z)))))))
    (spelled_spaced (codes "locals") (map signed_decimal t.locals) (codes "total") (signed_decimal t.total ∷ []))

-- One text more of a report.

report_cons : (r : Registry) (k : Command) (ks : List Command) → report_from r (k ∷ ks) ≡ text_of r k ++ report_from (after r k) ks
unfolding report_from
report_cons r k ks = refl

report_nil : (r : Registry) → report_from r [] ≡ []
unfolding report_from
report_nil r = refl

report_at : (r : Registry) (ks : List Command) (i : ℕ) (d : Command) → i < length ks → report_from r (drop i ks) ≡ text_of r (get_or ks i d) ++ report_from (after r (get_or ks i d)) (drop (i + 1) ks)
report_at r ks i d h = rw (add-one i, drop-cons ks i d) (report_cons r (get_or ks i d) (drop (suc i) ks))

-- the next text is written
pub report_step : (a b c : Option (List ℕ)) (whole : List ℕ) (r : Registry) (ks : List Command) (i : ℕ) (d : Command) (text : List ℕ) → i < length ks → Written a b whole (report_from r (drop i ks))
    → text ≡ text_of r (get_or ks i d) → Appends b c text
    → Written a c whole (report_from (after r (get_or ks i d)) (drop (i + 1) ks))
report_step a b c whole r ks i d text h done is more =
    written_more a b c whole (text_of r (get_or ks i d)) (report_from (after r (get_or ks i d)) (drop (i + 1) ks)) (rw (report_at r ks i d h) at done) (rw is at more)

-- a prefix of the next text is written
pub report_stopped : (a b c : Option (List ℕ)) (whole : List ℕ) (r : Registry) (ks : List Command) (i : ℕ) (d : Command) (text : List ℕ) → i < length ks → Written a b whole (report_from r (drop i ks))
    → text ≡ text_of r (get_or ks i d) → AppendsPrefix b c text → AppendsPrefix a c whole
report_stopped a b c whole r ks i d text h done is more =
    written_prefix a b c whole (text_of r (get_or ks i d)) (report_from (after r (get_or ks i d)) (drop (i + 1) ks)) (rw (report_at r ks i d h) at done) (rw is at more)

-- no command is left
pub report_done : (a b : Option (List ℕ)) (whole : List ℕ) (r : Registry) (ks : List Command) (i : ℕ) → length ks ≤ i → Written a b whole (report_from r (drop i ks)) → Appends a b whole
report_done a b whole r ks i h done = written_all a b whole (rw (drop_of_length-le ks h, report_nil r) at done)

-- the writer was flushed
pub flushed : (a b c : Option (List ℕ)) (text : List ℕ) → Appends a b text → Keeps b c → Appends a c text
flushed a b c text done keeps = written_all a c text (written_kept a b c text [] (record { done = text; split = sym (append-nil text); written = done }) keeps)

pub nothing_yet : (a : Option (List ℕ)) (text : List ℕ) → AppendsPrefix a a text
nothing_yet a text = (text, written_none a text)

pub all_of_it : (a b : Option (List ℕ)) (text : List ℕ) → Appends a b text → AppendsPrefix a b text
all_of_it a b text h = ([], record { done = text; split = sym (append-nil text); written = h })

pub on_err : {X Y : Type 0} (P : Type 0) (r : Result X Y) → P → OnErr r P
on_err P (Ok x) h = tt
on_err P (Err y) h = h

-- One line more of a run, over any session.

-- each command has a line
some_line : (command : Command) → (text : List ℕ) × IsLineOf command text
some_line (Domain cpus slots) = (_, refl)
some_line (Limits changes sections passive count) = (_, refl)
some_line (Attach c rec) = (_, (Ok (record { number = 1; slot = 0; rec = rec }), tt, refl))
some_line (Plug c rec x) = (_, (Ok (record { number = 1; slot = 0; rec = rec }), tt, refl))
some_line (Detach c kind name) = (_, (Ok (record { number = 1; slot = 0; rec = record { kind = kind; name = name; value = 0 } }), tt, refl))
some_line (Enter c) = (_, (Ok tt, tt, refl))
some_line (Exit c) = (_, (Ok true, tt, refl))
some_line (Find c kind name) = (_, (Ok None, tt, refl))
some_line (Held c a) = (_, (Ok true, tt, refl))
some_line (Read c a) = (_, (Ok (record { number = 1; value = 0 }), tt, refl))
some_line (Peek x) = (_, (Ok (record { number = 1; value = 0 }), tt, refl))
some_line (Advance n) = (_, (Ok (Freed 0), tt, refl))
some_line (Destroy c n turns) = (_, (Ok 0, tt, refl))
some_line (Perform c turns) = (_, (Ok tt, tt, refl))
some_line Audit = (_, ([], refl))
some_line _ = (_, (Ok 1, tt, refl))

some_run : (commands : List Command) → (text : List ℕ) × IsRunOf commands text
some_run [] = ([], refl)
some_run (command ∷ commands) =
    let line = some_line command in
    let run = some_run commands in
    (line.0 ++ run.0, (line.0, run.0, line.1, run.1, refl))

one_line : (command : Command) (text : List ℕ) → IsLineOf command text → IsRunOf (command ∷ []) text
one_line command text line = (text, [], line, refl, sym (append-nil text))

run_append : (ks ls : List Command) (a b : List ℕ) → IsRunOf ks a → IsRunOf ls b → IsRunOf (ks ++ ls) (a ++ b)
run_append [] ls a b none run = rw none run
run_append (k ∷ ks) ls a b (first, rest, line, run, is) more = (first, rest ++ b, line, run_append ks ls rest b run more, ap (λ z. z ++ b) is ∙ append_assoc first rest b)

run_more : (ks : List Command) (i : ℕ) (d : Command) (a b : List ℕ) → i < length ks → IsRunOf (take i ks) a → IsLineOf (get_or ks i d) b → IsRunOf (take (i + 1) ks) (a ++ b)
run_more ks i d a b below run line = rw (take_more ks i d below) (run_append (take i ks) (get_or ks i d ∷ []) a b run (one_line (get_or ks i d) b line))

-- the commands so far and those that are left
run_whole : (ks : List Command) (i : ℕ) (a b : List ℕ) → IsRunOf (take i ks) a → IsRunOf (drop i ks) b → IsRunOf ks (a ++ b)
run_whole ks i a b run more = rw take-append-drop at (run_append (take i ks) (drop i ks) a b run more)

-- the next text is written
pub run_step : (a b c : Option (List ℕ)) (ks : List Command) (i : ℕ) (d : Command) (text : List ℕ) → i < length ks → WritesRun a b (take i ks) → IsLineOf (get_or ks i d) text → Appends b c text
    → WritesRun a c (take (i + 1) ks)
run_step a b c ks i d text below (done, run, written) line more = (done ++ text, run_more ks i d done text below run line, appends_more a b c done text written more)

-- a front of the next text is written
pub run_stopped : (a b c : Option (List ℕ)) (ks : List Command) (i : ℕ) (d : Command) (text : List ℕ) → i < length ks → WritesRun a b (take i ks) → IsLineOf (get_or ks i d) text
    → AppendsPrefix b c text → WritesFront a c ks
run_stopped a b c ks i d text below (done, run, written) line more =
    let left = some_run (drop (i + 1) ks) in (
      (done ++ text) ++ left.0,
      run_whole ks (i + 1) (done ++ text) left.0 (run_more ks i d done text below run line) left.1,
      written_prefix a b c ((done ++ text) ++ left.0) text left.0 (record { done = done; split = append_assoc done text left.0; written = written }) more,
    )

-- what is written so far is a front
pub run_so_far : (a b : Option (List ℕ)) (ks : List Command) (i : ℕ) → WritesRun a b (take i ks) → WritesFront a b ks
run_so_far a b ks i (done, run, written) = let left = some_run (drop i ks) in (done ++ left.0, run_whole ks i done left.0 run left.1, (left.0, record { done = done; split = refl; written = written }))

-- no command is left
pub run_done : (a b : Option (List ℕ)) (ks : List Command) (i : ℕ) → length ks ≤ i → WritesRun a b (take i ks) → WritesRun a b ks
run_done a b ks i above done = rw (take_all i ks above) at done

-- nothing is written
pub run_not_begun : (a : Option (List ℕ)) (ks : List Command) → WritesFront a a ks
run_not_begun a ks = let all = some_run ks in (all.0, all.1, (all.0, written_none a all.0))
