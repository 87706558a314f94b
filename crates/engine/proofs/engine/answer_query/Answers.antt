use Rattle.std.proofs.Common.{Ok, Err, refl, sym, subst}
use Rattle.request.specs.declared.answer.Answer.TheVariants as answer
use Rattle.request.specs.declared.message.Query.{Query}
use Rattle.engine.specs.Answered.{CanBeAnswered}
use Rattle.engine.specs.Called.{IsQueried}
use Rattle.store.proofs.Knowing.{shows, knows_again}
use Rattle.store.proofs.Queried.{gets, lists, reads, stats}
use Rattle.engine.proofs.engine.answer_query.Goals as goal

pub returns-in-Ok-clause-queried : goal.returns-in-Ok-clause-queried
returns-in-Ok-clause-queried g c volume S honest knows going =
    let store = c.args.store.now in
    let J = g.D.Drive.journal c.args.drive.now in
    let shown = shows (g.D.Drive.capacity c.args.drive.now) volume J S store knows (g.D.Drive.honest c.get.new.drive) honest in
    let given = gets S c.in-Get.path (Ok c.in-Ok.data) (c.in-Ok.ensures.reported S.tree knows.once shown) (c.in-Ok.ensures.refused S.tree knows.once shown going) in (
      subst (λ (q : Query). IsQueried S q (answer.Data c.in-Ok.data)) (sym c.in-Get.is) (Ok c.in-Ok.data, given, refl),
      knows_again (g.D.Drive.capacity c.args.drive.now) volume J S store knows J c.get.new.self refl c.in-Ok.ensures.same.at c.in-Ok.ensures.same.vat c.in-Ok.ensures.same.capacity (c.in-Ok.ensures.kept honest knows.kept),
    )

pub returns-in-Err-clause-reported : goal.returns-in-Err-clause-reported
returns-in-Err-clause-reported g c = subst (λ (q : Query). CanBeAnswered q c.get_refusal.result) (sym c.in-Get.is) (c.get_refusal.ensures.reported c.in-Get.path)

pub returns-in-Err-clause-queried : goal.returns-in-Err-clause-queried
returns-in-Err-clause-queried g c volume S honest knows going =
    let store = c.args.store.now in
    let J = g.D.Drive.journal c.args.drive.now in
    let shown = shows (g.D.Drive.capacity c.args.drive.now) volume J S store knows (g.D.Drive.honest c.get.new.drive) honest in
    let given = gets S c.in-Get.path (Err c.in-Err.fault) (c.in-Err.ensures.reported S.tree knows.once shown) (c.in-Err.ensures.refused S.tree knows.once shown going) in (
      subst (λ (q : Query). IsQueried S q c.get_refusal.result) (sym c.in-Get.is) (Err c.in-Err.fault, given, c.get_refusal.ensures.refused),
      knows_again (g.D.Drive.capacity c.args.drive.now) volume J S store knows J c.get.new.self refl c.in-Err.ensures.same.at c.in-Err.ensures.same.vat c.in-Err.ensures.same.capacity (c.in-Err.ensures.kept honest knows.kept),
    )

pub returns-in-Ok-list-clause-queried : goal.returns-in-Ok-list-clause-queried
returns-in-Ok-list-clause-queried g c volume S honest knows going =
    let store = c.args.store.now in
    let J = g.D.Drive.journal c.args.drive.now in
    let shown = shows (g.D.Drive.capacity c.args.drive.now) volume J S store knows (g.D.Drive.honest c.list.new.drive) honest in
    let given = lists S c.in-List.path (Ok c.in-Ok-list.listing) (c.in-Ok-list.ensures.reported S.tree shown) (c.in-Ok-list.ensures.refused S.tree shown going) in (
      subst (λ (q : Query). IsQueried S q (answer.Names c.in-Ok-list.listing)) (sym c.in-List.is) (Ok c.in-Ok-list.listing, given, refl),
      knows_again (g.D.Drive.capacity c.args.drive.now) volume J S store knows J c.list.new.self refl c.in-Ok-list.ensures.same.at c.in-Ok-list.ensures.same.vat c.in-Ok-list.ensures.same.capacity (c.in-Ok-list.ensures.kept honest knows.kept),
    )

pub returns-in-Err-list-clause-reported : goal.returns-in-Err-list-clause-reported
returns-in-Err-list-clause-reported g c = subst (λ (q : Query). CanBeAnswered q c.list_refusal.result) (sym c.in-List.is) (c.list_refusal.ensures.reported c.in-List.path)

pub returns-in-Err-list-clause-queried : goal.returns-in-Err-list-clause-queried
returns-in-Err-list-clause-queried g c volume S honest knows going =
    let store = c.args.store.now in
    let J = g.D.Drive.journal c.args.drive.now in
    let shown = shows (g.D.Drive.capacity c.args.drive.now) volume J S store knows (g.D.Drive.honest c.list.new.drive) honest in
    let given = lists S c.in-List.path (Err c.in-Err-list.fault) (c.in-Err-list.ensures.reported S.tree shown) (c.in-Err-list.ensures.refused S.tree shown going) in (
      subst (λ (q : Query). IsQueried S q c.list_refusal.result) (sym c.in-List.is) (Err c.in-Err-list.fault, given, c.list_refusal.ensures.refused),
      knows_again (g.D.Drive.capacity c.args.drive.now) volume J S store knows J c.list.new.self refl c.in-Err-list.ensures.same.at c.in-Err-list.ensures.same.vat c.in-Err-list.ensures.same.capacity (c.in-Err-list.ensures.kept honest knows.kept),
    )

pub returns-in-Ok-stat-clause-queried : goal.returns-in-Ok-stat-clause-queried
returns-in-Ok-stat-clause-queried g c volume S honest knows going =
    let store = c.args.store.now in
    let J = g.D.Drive.journal c.args.drive.now in
    let shown = shows (g.D.Drive.capacity c.args.drive.now) volume J S store knows (g.D.Drive.honest c.stat.new.drive) honest in
    let given = stats S c.in-Stat.path (Ok c.in-Ok-stat.status) (c.in-Ok-stat.ensures.reported S.tree knows.once shown) (c.in-Ok-stat.ensures.refused S.tree shown going) in (
      subst (λ (q : Query). IsQueried S q (answer.Node c.in-Ok-stat.status)) (sym c.in-Stat.is) (Ok c.in-Ok-stat.status, given, refl),
      knows_again (g.D.Drive.capacity c.args.drive.now) volume J S store knows J c.stat.new.self refl c.in-Ok-stat.ensures.same.at c.in-Ok-stat.ensures.same.vat c.in-Ok-stat.ensures.same.capacity (c.in-Ok-stat.ensures.kept honest knows.kept),
    )

pub returns-in-Err-stat-clause-reported : goal.returns-in-Err-stat-clause-reported
returns-in-Err-stat-clause-reported g c = subst (λ (q : Query). CanBeAnswered q c.stat_refusal.result) (sym c.in-Stat.is) (c.stat_refusal.ensures.reported c.in-Stat.path)

pub returns-in-Err-stat-clause-queried : goal.returns-in-Err-stat-clause-queried
returns-in-Err-stat-clause-queried g c volume S honest knows going =
    let store = c.args.store.now in
    let J = g.D.Drive.journal c.args.drive.now in
    let shown = shows (g.D.Drive.capacity c.args.drive.now) volume J S store knows (g.D.Drive.honest c.stat.new.drive) honest in
    let given = stats S c.in-Stat.path (Err c.in-Err-stat.fault) (c.in-Err-stat.ensures.reported S.tree knows.once shown) (c.in-Err-stat.ensures.refused S.tree shown going) in (
      subst (λ (q : Query). IsQueried S q c.stat_refusal.result) (sym c.in-Stat.is) (Err c.in-Err-stat.fault, given, c.stat_refusal.ensures.refused),
      knows_again (g.D.Drive.capacity c.args.drive.now) volume J S store knows J c.stat.new.self refl c.in-Err-stat.ensures.same.at c.in-Err-stat.ensures.same.vat c.in-Err-stat.ensures.same.capacity (c.in-Err-stat.ensures.kept honest knows.kept),
    )

pub returns-in-Ok-read-clause-queried : goal.returns-in-Ok-read-clause-queried
returns-in-Ok-read-clause-queried g c volume S honest knows going =
    let store = c.args.store.now in
    let J = g.D.Drive.journal c.args.drive.now in
    let shown = shows (g.D.Drive.capacity c.args.drive.now) volume J S store knows (g.D.Drive.honest c.read.new.drive) honest in
    let given = reads S c.in-Read.path c.in-Read.offset c.in-Read.count (Ok c.in-Ok-read.bytes) (c.in-Ok-read.ensures.reported S.tree knows.once shown) (c.in-Ok-read.ensures.refused S.tree knows.once shown going) in (
      subst (λ (q : Query). IsQueried S q (answer.Data c.in-Ok-read.bytes)) (sym c.in-Read.is) (Ok c.in-Ok-read.bytes, given, refl),
      knows_again (g.D.Drive.capacity c.args.drive.now) volume J S store knows J c.read.new.self refl c.in-Ok-read.ensures.same.at c.in-Ok-read.ensures.same.vat c.in-Ok-read.ensures.same.capacity (c.in-Ok-read.ensures.kept honest knows.kept),
    )

pub returns-in-Err-read-clause-reported : goal.returns-in-Err-read-clause-reported
returns-in-Err-read-clause-reported g c = subst (λ (q : Query). CanBeAnswered q c.read_refusal.result) (sym c.in-Read.is) (c.read_refusal.ensures.reported c.in-Read.path c.in-Read.offset c.in-Read.count)

pub returns-in-Err-read-clause-queried : goal.returns-in-Err-read-clause-queried
returns-in-Err-read-clause-queried g c volume S honest knows going =
    let store = c.args.store.now in
    let J = g.D.Drive.journal c.args.drive.now in
    let shown = shows (g.D.Drive.capacity c.args.drive.now) volume J S store knows (g.D.Drive.honest c.read.new.drive) honest in
    let given = reads S c.in-Read.path c.in-Read.offset c.in-Read.count (Err c.in-Err-read.fault) (c.in-Err-read.ensures.reported S.tree knows.once shown) (c.in-Err-read.ensures.refused S.tree knows.once shown going) in (
      subst (λ (q : Query). IsQueried S q c.read_refusal.result) (sym c.in-Read.is) (Err c.in-Err-read.fault, given, c.read_refusal.ensures.refused),
      knows_again (g.D.Drive.capacity c.args.drive.now) volume J S store knows J c.read.new.self refl c.in-Err-read.ensures.same.at c.in-Err-read.ensures.same.vat c.in-Err-read.ensures.same.capacity (c.in-Err-read.ensures.kept honest knows.kept),
    )
