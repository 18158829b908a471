-- What a find in the open section promises of a name that is kept follows from what it does.
use Rattle.std.proofs.Common.{[], rules}
use Rattle.std.proofs.lemmas.List.{append-nil}
use Rattle.cpu_words.specs.Common.{key_with}
use Rattle.passive_list.specs.Common.{HasFound}
use Rattle.passive_list.proofs.ByMemory.{kept_inside}
use Rattle.passive_list.proofs.lookup.find_on.Goals as goal

pub returns-clause-kept : goal.returns-clause-kept
returns-clause-kept c =
    let a = c.args.cpu.now.cpu in
    let key = key_with c.args.kind c.args.name.now in
    let had : HasFound key a c.find_seen-seen.new.cpu.cpu c.entry_of.result = search rules in
    kept_inside key a.view.pass a _ _ had ([], append-nil a.view.pass)
