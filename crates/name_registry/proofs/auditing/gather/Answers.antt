-- One CPU more has heard, and all have.
use Rattle.std.proofs.Common.{◌≡◌, ◌∙◌, ◌+◌, ◌<◌, ◌≤◌, ◌++◌, List, length, get_or, map, set, ap, sym, subst, arith, Option, None, Some}
use Rattle.std.proofs.Math.Seq.{map-set_same}
use Rattle.std.proofs.lemmas.List.{length-map, map-set}
use mathlib.Core.List.{IsPrefix}
use Rattle.name_registry.specs.Types.{KeeperView}
use Rattle.cpu_words.specs.Common.{Named, heard_from}
use Rattle.passive_list.specs.Common.{OnCpu, OnKeeper}
use Rattle.name_registry.specs.Common.{AreItsWords}
use Rattle.name_registry.proofs.Gathered.{Gathered, HaveSeen, gathered_alike, gathered_learned, gathered_more, gathered_notes, listened, seen_more, told_all}
use Rattle.name_registry.proofs.Lent.{cpu_there, table_there}
use Rattle.name_registry.proofs.auditing.gather.Goals as goal

pub pass_on-note-requires-clause-words : goal.pass_on-note-requires-clause-words
pass_on-note-requires-clause-words g c =
    let table = g.C.ReachesCpu.table in
    let l = c.loop-c in
    let lt : l.c < length l.cpus = omega (arith, c.loop-c-test.true, l.auto.cpus) in
    let size : length (map table l.cpus) ≡ length l.cpus = length-map l.cpus table in
    let is : table (get_or l.cpus l.c c.index-cpus-c.result) ≡ Some c.args.keeper.now.words = sym (table_there l.cpus l.c c.index-cpus-c.result lt table)
    ∙ (ap (λ (ts : List (Option Named)). get_or ts l.c None) l.invariant.tables ∙ c.requires.there l.c (omega (arith, lt, size, ap length l.invariant.tables))) in
    subst (λ (t : Option Named). AreItsWords t c.args.words.now) (sym is) c.requires.words

pub loop-c-preserved : goal.loop-c-preserved
loop-c-preserved g c =
    let cpu = g.C.ReachesCpu.cpu in
    let table = g.C.ReachesCpu.table in
    let l = c.loop-c in
    let e = c.pass_on-note.ensures in
    let d = c.index-cpus-c.result in
    let one = get_or l.cpus l.c d in
    let new = c.pass_on-note.new.lent in
    let lt : l.c < length l.cpus = omega (arith, c.loop-c-test.true, l.auto.cpus) in
    let at = cpu_there l.cpus l.c d lt cpu in
    let is : map cpu (set l.cpus l.c new) ≡ set (map cpu l.cpus) l.c (cpu new) = map-set cpu l.cpus l.c new in
    record {
      keeper = l.invariant.keeper;
      note = e.note.0 ∙ l.invariant.note;
      tables = map-set_same table l.cpus l.c new d e.table ∙ l.invariant.tables;
      words = l.invariant.words;
      seen = subst (λ (ys : List OnCpu). HaveSeen ys (l.c + 1) c.args.keeper.now.keeper.view.history c.pass_on-note.result.view) (sym is)
          (seen_more (map cpu l.cpus) l.c _ l.note.view c.pass_on-note.result.view (cpu one) (cpu new) l.invariant.seen e.heard e.pass);
      gathered = subst (λ (ys : List OnCpu). Gathered (map cpu c.args.cpus.now) ys (l.c + 1) c.tell_keeper-note.new.keeper.keeper.log c.pass_on-note.result.known_log) (sym is)
          (gathered_more (map cpu c.args.cpus.now) (map cpu l.cpus) l.c c.tell_keeper-note.new.keeper.keeper.log l.note.known_log c.pass_on-note.result.known_log l.note.view (cpu one) (cpu new)
          l.invariant.gathered at e.heard e.told e.shown e.note.1 (l.note.teller, e.log));
    }

pub returns : goal.returns
returns g c =
    let cpu = g.C.ReachesCpu.cpu in
    let l = c.loop-c in
    let i = l.invariant in
    let e = c.hear_keeper.ensures in
    let a = c.args.keeper.now.keeper in
    let xs = map cpu c.args.cpus.now in
    let ys = map cpu l.cpus in
    let done : length ys ≤ l.c = omega (arith, c.loop-c-test.false, l.auto.cpus, length-map l.cpus cpu) in
    record {
      alike = gathered_alike _ a c.tell_keeper-note.new.keeper.keeper xs ys l.c _ l.note.known_log i.gathered done i.keeper e.known_log e.own;
      keeper = listened a c.hear_keeper.new.keeper.keeper l.note.view _ _ (e.view ∙ ap (λ (k : OnKeeper). record k.view { noted_pass = l.note.view }) i.keeper)
          (e.slots ∙ ap (λ (k : OnKeeper). k.slots) i.keeper) (e.log ∙ ap (λ (k : OnKeeper). k.log ++ heard_from None l.note.teller) i.keeper);
      cpus = gathered_learned xs ys l.c _ _ i.gathered done;
      notes = gathered_notes xs ys l.c _ _ i.gathered done;
      told = told_all _ a c.tell_keeper-note.new.keeper.keeper c.hear_keeper.new.keeper.keeper xs ys l.c l.note.known_log l.note.view l.note.teller i.gathered i.seen done i.keeper
          e.known_log (subst (IsPrefix l.note.view) (ap (λ (v : KeeperView). v.history) e.view) e.told) e.own e.log;
      tables = i.tables;
      words = e.words ∙ i.words;
    }
