-- `release_passive`: its clauses `all`, `released`, `labels` and `only`.
use Rattle.std.proofs.Common.{arith, get_or}
use Rattle.registry_live.proofs.Labelled.{place_missing, place_released}
use Rattle.registry_live.proofs.LiveCpus.{all_with, one_back, released_id}
use Rattle.registry_live.proofs.Ended.{all_same, asked}
use Rattle.registry_live.proofs.session.release_passive.Goals as goal

pub returns-in_default-release-clause-all : goal.returns-in_default-release-clause-all
returns-in_default-release-clause-all g c =
    all_with _ c.args.cpus.now c.cpu-at.result c.index-cpus-at.result c.release.new.cpu c.requires (omega (arith, c.if-at-cpus.false, c.requires.count)) c.index-cpus-at.is
    (released_id (get_or c.args.cpus.now c.cpu-at.result c.index-cpus-at.result) c.release.new.cpu c.in-Some.psref _ c.release.result c.release.ensures.answer c.release.ensures.refused)

pub returns-in-Err-clause-released : goal.returns-in-Err-clause-released
returns-in-Err-clause-released g c =
    one_back c.args.cpus.now c.index-cpus-at.result c.release.new.cpu c.in-Some.psref c.args.place c.cpu-at.result c.release.result c.in-Some.is c.cpu-at.ensures c.release.ensures.answer

pub returns-in_default-release-clause-released : goal.returns-in_default-release-clause-released
returns-in_default-release-clause-released g c =
    one_back c.args.cpus.now c.index-cpus-at.result c.release.new.cpu c.in-Some.psref c.args.place c.cpu-at.result c.release.result c.in-Some.is c.cpu-at.ensures c.release.ensures.answer

pub returns-then-at-cpus-clause-labels : goal.returns-then-at-cpus-clause-labels
returns-then-at-cpus-clause-labels g c = place_missing c.args.cpus.now c.cpu-at.result c.in-Some.psref c.args.place c.in-Some.is c.cpu-at.ensures c.if-at-cpus.true

pub returns-in-Err-clause-labels : goal.returns-in-Err-clause-labels
returns-in-Err-clause-labels g c =
    place_released _ c.args.cpus.now c.cpu-at.result c.index-cpus-at.result c.release.new.cpu c.in-Some.psref c.args.place c.release.result c.requires
    (omega (arith, c.if-at-cpus.false)) c.index-cpus-at.is c.in-Some.is c.cpu-at.ensures c.release.ensures.answer c.release.ensures.refused

pub returns-in_default-release-clause-labels : goal.returns-in_default-release-clause-labels
returns-in_default-release-clause-labels g c =
    place_released _ c.args.cpus.now c.cpu-at.result c.index-cpus-at.result c.release.new.cpu c.in-Some.psref c.args.place c.release.result c.requires
    (omega (arith, c.if-at-cpus.false)) c.index-cpus-at.is c.in-Some.is c.cpu-at.ensures c.release.ensures.answer c.release.ensures.refused

pub returns-then-at-cpus-clause-only : goal.returns-then-at-cpus-clause-only
returns-then-at-cpus-clause-only g c = all_same c.args.cpus.now

pub returns-in-Err-clause-only : goal.returns-in-Err-clause-only
returns-in-Err-clause-only g c = asked c.args.cpus.now c.cpu-at.result c.index-cpus-at.result c.release.new.cpu c.in-Some.psref _ c.release.result c.release.ensures.answer c.release.ensures.refused

pub returns-in_default-release-clause-only : goal.returns-in_default-release-clause-only
returns-in_default-release-clause-only g c =
    asked c.args.cpus.now c.cpu-at.result c.index-cpus-at.result c.release.new.cpu c.in-Some.psref _ c.release.result c.release.ensures.answer c.release.ensures.refused
