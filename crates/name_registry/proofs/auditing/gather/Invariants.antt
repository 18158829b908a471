use Rattle.std.proofs.Common.{◌≡◌, ◌++◌, None, map}
use Rattle.name_registry.specs.Types.{Tell, Done}
use Rattle.cpu_words.specs.Common.{did}
use Rattle.name_registry.proofs.Gathered.{Gathered, HaveSeen}
use Rattle.name_registry.proofs.auditing.gather.Given as goal

-- the CPUs so far have heard
abbrev pub invariant-loop-c : goal.invariant-loop-c
invariant-loop-c g l = record {
  keeper : l.keeper.keeper ≡ record l.fn.keeper.keeper { log = l.fn.keeper.keeper.log ++ did (Tell None) Done };
  note : l.note.table ≡ l.words.table;
  tables : map g.C.ReachesCpu.table l.cpus ≡ map g.C.ReachesCpu.table l.fn.cpus;
  words : l.keeper.words ≡ l.fn.keeper.words;
  seen : HaveSeen (map g.C.ReachesCpu.cpu l.cpus) l.c l.fn.keeper.keeper.view.history l.note.view;
  gathered : Gathered (map g.C.ReachesCpu.cpu l.fn.cpus) (map g.C.ReachesCpu.cpu l.cpus) l.c l.keeper.keeper.log l.note.known_log;
}
