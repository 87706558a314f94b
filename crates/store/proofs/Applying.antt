-- What becomes of a new request, by where its commit ends.
use Rattle.std.proofs.Common.{◌≡◌, ◌⊎◌, inl, inr, ℕ, ◌+◌, ◌<◌, ◌≤◌, true, List, [], ◌∷◌, ◌++◌, length, refl, sym, ap, subst, ◌∙◌, arith, append_assoc, append-nil}
use Rattle.std.specs.Prelude.{Result, Ok, Err, IfOk, IfErr, OnOk, is_err}
use Rattle.std.proofs.lemmas.Bool.{false≢true}
use Rattle.std.proofs.lemmas.List.{take_all}
use Rattle.drive.specs.Journal.{AddsPrefix, Event, held, next_of, written}
use Rattle.drive.proofs.Fronts.{held_write}
use Rattle.drive.specs.Sending.{SendsAlone}
use Rattle.drive.specs.Writes.{joined, LastIsCut, WritesInTurn}
use Rattle.drive.specs.declared.Drive.{Ghosts}
use Rattle.model.specs.Session.{State, after_one, reply_to}
use Rattle.durability.specs.Commit.{need}
use Rattle.durability.specs.Formats.{Block}
use Rattle.durability.specs.Journal.{Advances}
use Rattle.durability.specs.Plan.{IsPlanned}
use Rattle.durability.specs.Volume.{Medium, RecoversTo}
use Rattle.durability.proofs.OnJournals.{torn_advances}
use Rattle.durability.proofs.Writes.{left_more}
use Rattle.udf.proofs.Formats.{exact, bounded, distinct}
use Rattle.recover.specs.Faults.{IsShortage, devices, device_failures}
use Rattle.recover.specs.declared.fault.StoreFault.{StoreFault}
use Rattle.recover.specs.declared.fault.StoreFault.TheVariants as fault
use Rattle.request.specs.Numbers.{code_number}
use Rattle.request.specs.declared.answer.Reply as told
use Rattle.request.specs.declared.message.Request as asking
use Rattle.udf.specs.Said.{model_table}
use Rattle.udf.specs.Udf.{udf, spelled_length}
use Rattle.vat.specs.Table.{view}
use Rattle.planning.specs.declared.change.Change.{Change}
use Rattle.planning.specs.declared.plan.Plan.{Plan}
use Rattle.store.specs.declared.store.Store.{Store}
use Rattle.lookup.specs.Asked.{model_request}
use Rattle.lookup.specs.Cache.{AreKept}
use Rattle.store.specs.Calls.{Applies, IsCommitDone, IsCommitPlanned, IsFailed, IsOpenOn, RefusesRequest, CommitSurvivesPowerLoss}
use Rattle.table_update.specs.Commits.{IsPart, IsWholeCommit}
use Rattle.planning.specs.Needs.{change_need}
use Rattle.table_update.specs.NextTable.{begun}
use Rattle.planning.specs.Plan.{IsPlan, node_list, plan_blocks, table_data}
use Rattle.store.specs.Putting.{BreaksPlan, IsPlanOf, KeepsPlan}
use Rattle.store.specs.Sessions.{reply_said}
use Rattle.table_update.proofs.Committed.{commits_are_part, commits_are_whole, tables_stand}
use Rattle.store.proofs.Knowing.{ChangesStore, at_is, commits, need_is, next_is, planned, planned_blocks, planned_table}

module _ (capacity volume : ℕ) (J : List Event) (S : State) (store : Store) (knows : IsOpenOn capacity volume J S store) where
  -- nothing is written
  pub stays : Advances udf capacity volume J S J S
  stays = record {
    front = take_all (length J) J (omega arith);
    once = knows.once;
    moves = record {
      more = ([], sym (append-nil (held J)));
      fronts = λ k low below. absurd (omega (arith, low, below));
      ends = knows.stands;
      past = λ commits state h. h;
    };
  }

  -- so nothing can be torn
  pub unwritten : (r : asking.Request) (W : List (List Block)) (failed : ℕ) (J' : List Event) (W' : List (List Block)) → J' ≡ J → W' ≡ W → CommitSurvivesPowerLoss capacity volume J S (model_request r) W failed J' W'
  unwritten r W failed J' W' same kept = record {
    added = [];
    writes_are = kept ∙ sym (append-nil W);
    whole = λ ok. same ∙ sym (append-nil J);
    cut = λ more. inl (refl, same);
    torn = λ left afterwards none there. inl (subst (λ (K : List Event). Advances udf capacity volume J S K S) (sym (there ∙ ap (λ (bs : List Block). J ++ written (length J) bs) none ∙ append-nil J)) stays);
  }

  -- the drive failed before anything was written, or memory was short
  pub short : (r : asking.Request) (refusal : StoreFault) (J' : List Event) (now : Store) → IsShortage refusal → J' ≡ J → IsOpenOn capacity volume J' S now → RefusesRequest capacity volume J S (model_request r) refusal J' now
  short r refusal J' now (inl device) same again = inl (
    device,
    record {
      done = [];
      whether = inl refl;
      advances = subst (λ (K : List Event). Advances udf capacity volume J S K S) (sym same) stays;
      few = omega (arith, ap (λ (K : List Event). length K) same);
      room = λ more. absurd (omega (arith, more, ap (λ (K : List Event). length K) same));
      knows = λ going. again;
    },
  )
  short r refusal J' now (inr memory) same again = inr (inl (memory, record { journal = same; knows = λ going. again }))

  module _ (r : asking.Request) (change : Change) (does : ChangesStore capacity volume J S store knows r r.moment change) where
    -- so many blocks from the end of the journal on
    abbrev most : ℕ
    most = next_of J + change_need change (begun store.vat_icb_address r.client r.number (code_number change.code) change.made (view store.vat))

    most_is : most ≡ length J + need spelled_length S (model_request r)
    most_is = λ i. next_is capacity volume J S store knows i + need_is capacity volume J S store knows r change does i

    -- there may be no room
    pub full : (refusal : StoreFault) (J' : List Event) (now : Store) → IsShortage refusal ⊎ (refusal ≡ fault.Full) → (refusal ≡ fault.Full → store.capacity < most) → J' ≡ J → IsOpenOn capacity volume J' S now
        → RefusesRequest capacity volume J S (model_request r) refusal J' now
    full refusal J' now (inl few) over same again = short r refusal J' now few same again
    full refusal J' now (inr is) over same again = inr (inr (is, record { journal = same; knows = λ going. again }, omega (arith, over is, most_is, knows.capacity_is)))

    module _ (plan : Plan) (makes : IsPlanOf store r change plan) (is : IsPlan (next_of J) capacity plan) (room : most ≤ store.capacity) where
      abbrev blocks : List Block
      blocks = planned_blocks capacity volume J S store knows r change does plan makes is

      roomy : length J + need spelled_length S (model_request r) ≤ volume
      roomy = omega (arith, room, most_is, knows.capacity_is)

      all_is : plan_blocks plan ≡ blocks ++ plan.table.entry ∷ []
      all_is = sym (append_assoc (node_list plan) (table_data plan.table) (plan.table.entry ∷ []))

      next : next_of J ≡ length J
      next = next_is capacity volume J S store knows

      abbrev plans : IsPlanned udf capacity volume (held J) S knows.stands (model_request r) blocks plan.table.entry
      plans = planned capacity volume J S store knows r change does plan makes is

      -- a prefix is written
      pub stopped : (J' : List Event) (now : Store) → now.is_stopped ≡ true → AddsPrefix J (next_of J) (plan_blocks plan) J' → IsFailed capacity volume J S (model_request r) J' now
      stopped J' now stops front =
          let there : AddsPrefix J (length J) (blocks ++ plan.table.entry ∷ []) J' = subst (λ (n : ℕ). AddsPrefix J n (blocks ++ plan.table.entry ∷ []) J') next (subst (λ (bs : List Block). AddsPrefix J (next_of J) bs J') all_is front) in
          let part : IsPart capacity volume J S (model_request r) J' = commits_are_part capacity volume J J' S (model_request r) blocks plan.table.entry knows.once knows.stands plans there in
          record {
            done = part.done;
            whether = part.whether;
            advances = part.advances;
            few = part.few;
            room = λ more. roomy;
            knows = λ going. absurd (false≢true (sym going ∙ stops));
          }

      -- what its writes leave, and what a power loss leaves of them
      pub withstands : {D : Type 0} {drive : Ghosts D} (result : Result told.Reply StoreFault) (d e : D) (W : List (List Block)) → drive.writes d ≡ W
          → SendsAlone drive (next_of (drive.journal d)) (node_list plan ++ table_data plan.table) plan.table.entry (is_err result) d e → drive.journal d ≡ J
          → (old now : Store) → IfErr result (BreaksPlan plan (drive.journal d) (drive.journal e) old now) → CommitSurvivesPowerLoss capacity volume J S (model_request r) W (devices result) (drive.journal e) (drive.writes e)
      withstands {D} {drive} result d e W kept sends same old now broken = record {
        added = sends.added;
        writes_are = sends.writes ∙ ap (λ (ws : List (List Block)). ws ++ sends.added) kept;
        whole = λ ok. whole_of result ok broken in_turn;
        cut = λ more. inr (cut_of result more in_turn);
        torn = λ left afterwards cut there.
            elim (torn_advances udf capacity volume exact bounded distinct J afterwards S (model_request r) blocks plan.table.entry knows.once knows.stands plans (sends.added ++ sends.others) left sends.alone
            (left_more sends.added sends.others left cut) there) [ inl stood ↦ inl stood | inr done ↦ inr done.1 ];
      }
        where
          in_turn : WritesInTurn (length J) (is_err result) J sends.added (drive.journal e)
          in_turn = subst (λ (n : ℕ). WritesInTurn n (is_err result) J sends.added (drive.journal e)) next
              (subst (λ (L : List Event). WritesInTurn (next_of L) (is_err result) L sends.added (drive.journal e)) same sends.in_turn)

          whole_of : (answer : Result told.Reply StoreFault) → devices answer ≡ 0 → IfErr answer (BreaksPlan plan (drive.journal d) (drive.journal e) old now) → WritesInTurn (length J) (is_err answer) J sends.added (drive.journal e)
              → drive.journal e ≡ J ++ written (length J) (joined sends.added)
          whole_of (Ok reply) ok part turn = turn.all refl
          whole_of (Err refusal) ok part turn = let bad : 1 ≡ 0 = ap device_failures (sym part.device) ∙ ok in absurd (omega (arith, bad))

          cut_of : (answer : Result told.Reply StoreFault) → 0 < devices answer → WritesInTurn (length J) (is_err answer) J sends.added (drive.journal e) → LastIsCut (length J) J sends.added (drive.journal e)
          cut_of (Ok reply) more turn = absurd (omega (arith, more))
          cut_of (Err refusal) more turn = turn.cut refl

      -- all is written
      module _ (J' : List Event) (whole_is : J' ≡ J ++ written (next_of J) (plan_blocks plan)) where
        there_all : J' ≡ J ++ written (length J) (blocks ++ plan.table.entry ∷ [])
        there_all = whole_is ∙ (λ i. J ++ written (next i) (all_is i))

        pub whole : IsWholeCommit capacity volume J S (model_request r) J'
        whole = commits_are_whole capacity volume J J' S (model_request r) blocks plan.table.entry knows.once knows.stands plans there_all

        -- the table that is there is the plan's
        stands_there : (later : RecoversTo udf capacity volume (held J') (after_one S (model_request r))) → (later.at ≡ length (held J) + length blocks) × (later.tells.table ≡ plans.table)
        stands_there =
            subst (λ (M : Medium). (later : RecoversTo udf capacity volume M (after_one S (model_request r))) → (later.at ≡ length (held J) + length blocks) × (later.tells.table ≡ plans.table))
            (append_assoc (held J) blocks (plan.table.entry ∷ []) ∙ sym (held_write J J' (length J) (blocks ++ plan.table.entry ∷ []) knows.once refl there_all))
            (tables_stand capacity volume (held J) S (model_request r) blocks plan.table.entry knows.stands plans (after_one S (model_request r)))

        pub knows_done : (now : Store) → now.vat_icb_address ≡ plan.table.at → now.vat ≡ plan.table.vat → now.capacity ≡ store.capacity → AreKept J' now.directories → IsOpenOn capacity volume J' (after_one S (model_request r)) now
        knows_done now at vat size kept =
            let later : RecoversTo udf capacity volume (held J') (after_one S (model_request r)) = whole.advances.moves.ends in
            let same = stands_there later in
            record {
              once = whole.advances.once;
              stands = later;
              at = at ∙ at_is capacity volume J S store knows r change does plan makes is ∙ sym same.0;
              table = ap (λ v. model_table (view v)) vat ∙ sym (planned_table capacity volume J S store knows r change does plan makes is) ∙ sym same.1;
              capacity_is = size ∙ knows.capacity_is;
              kept = kept;
            }

        pub done : (reply : told.Reply) (now : Store) → reply ≡ plan.reply → now.vat_icb_address ≡ plan.table.at → now.vat ≡ plan.table.vat → now.capacity ≡ store.capacity → AreKept J' now.directories
            → IsCommitDone capacity volume J S (model_request r) reply J' now
        done reply now said at vat size kept = record {
          reply_is = ap reply_said said ∙ reply_planned;
          advances = whole.advances;
          some = whole.some;
          few = whole.few;
          room = roomy;
          knows = λ going. knows_done now at vat size kept;
        }
          where
            reply_planned : reply_said plan.reply ≡ reply_to S (model_request r)
            reply_planned = λ i. record { code = (ap code_number makes.code ∙ does.is.code_is) i; commit = (makes.commit ∙ ap (λ (n : ℕ). n + 1) (commits capacity volume J S store knows)) i }

      -- what is written is what is planned
      pub plans_written : (result : Result told.Reply StoreFault) (K J' : List Event) (old now : Store) → K ≡ J → IfOk result (KeepsPlan plan K J' old now) → OnOk result (IsCommitPlanned capacity volume J S (model_request r) J')
      plans_written (Ok reply) K J' old now same all = record {
        stands = knows.stands;
        blocks = blocks;
        mark = plan.table.entry;
        planned = plans;
        journal = there_all J' (all.journal ∙ ap (λ (L : List Event). L ++ written (next_of L) (plan_blocks plan)) same);
      }
      plans_written (Err refusal) K J' old now same all = tt

      -- by what the commit answered
      pub applies : (result : Result told.Reply StoreFault) (K J' : List Event) (old now : Store) → K ≡ J → IfOk result (KeepsPlan plan K J' old now) → IfErr result (BreaksPlan plan K J' old now) → old.capacity ≡ store.capacity → AreKept J' now.directories
          → Applies capacity volume J S (model_request r) result J' now
      applies (Ok reply) K J' old now same all broken size kept =
          done J' (all.journal ∙ ap (λ (L : List Event). L ++ written (next_of L) (plan_blocks plan)) same) reply now all.reply_is all.at all.vat (all.volume ∙ size) kept
      applies (Err refusal) K J' old now same all broken size kept =
          inl (broken.device, stopped J' now broken.stopped (subst (λ (L : List Event). AddsPrefix L (next_of L) (plan_blocks plan) J') same broken.front))
