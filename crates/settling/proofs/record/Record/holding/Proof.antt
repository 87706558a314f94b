-- `holding` makes a value of no bytes, at the blocks that it is lent.
use Rattle.std.proofs.Common.{◌<◌, ◌^◌, length, slice_index}
use mathlib.Core.Path.{refl}
use mathlib.Core.List.{[], ◌∷◌}
use seplogic.Ra.Ura.{Ura}
use mir.Syntax.{named}
use mir.Val.{Val, vptr, vstruct, vcons, vnil}
use base.Logic.{SProp, ent, emp, via, fst∗}
use base.Fml.{Fml}
use prog.Memory.{Memory}
use prog.Routine.{Routine}
use prog.Wp.{Calls, Loops, WpFn, Tables}
use types.Logic.{Logic}
use contract.Lifetimes.{Lfts, Shares}
use contract.Monad.{Fun}
use contract.Running.{tables, tables_of}
use sound.WpLaws.{WpFn-mono}
use types.Kit.{‵, raw, ◌$◌, ◌∵◌, !, qed, move, suffices, done}
use types.Run.{no_more, and_then, returns, enter}
use types.Part.{agg}
use types.ByLocal.{alloc_all, pass_all, free_all, look_at, get, sets}
use denote.Exit.{yes}
use denote.Builtin.{u32}
use denote.RattleType.{owns}
use denote.Ref.{shr_vals, shr_Tells}
use denote.Slice.{slice_val, shr_slice_vals, shr_slice_Tells}
use denote.Shadow.{pure_i}
use denote.Signature.{plain, types_at}
use denote.Triple.Entry.{on_entry, alive, Args}
use denote.Triple.Spec.{Meets, triple_of}
use denote.Triple.Table.{entered}
use denote.Triple.Walked.{says, stay_none_ref, stay_none_slice, Stays, walk_of, Walks, ends_at, walked, Goes-none_ref, Goes-none_slice, walk_Meets}
use Rattle.drive.specs.Journal.{written}
use Rattle.drive.specs.Note.{fitted}
use Rattle.settling.specs.declared.record.Record.{Record}
use Rattle.settling.specs.contracts.record.Record as T
use Rattle.drive.specs.contracts.record.HeldBlocks as held
use Rattle.settling.specs.contracts.record.Record.holding.Key.{name as #it}
use Rattle.settling.specs.contracts.record.Record.holding as it
use Rattle.settling.proofs.record.Record.holding.Statement as stated
use Rattle.settling.proofs.record.Record.holding.Code as code

abbrev v : Val
v = vstruct (vcons (vstruct vnil) vnil)

abbrev stayed : Stays (it.ended).signature.params (it.ended).kept
stayed = (stay_none_slice (0 ∷ []) tt (plain (λ _. u32)) yes, (stay_none_ref (1 ∷ []) tt (plain (λ _. held.the_row)) yes, tt))

module _ {M : Type 1} {𝓤 : Ura M} (𝓛 : Logic 𝓤) (mem : Memory → SProp 𝓤) (run : Routine → Fun 𝓤) (C : Calls 𝓤 𝓛.H) (Λ : Loops 𝓤 𝓛.H) where
  open 𝓛 use {H}

  module _ (κs : Lfts 2) (qs : Shares 2) (a : Args it.signature κs) where
    abbrev made : Record
    made = record { marker = record {}; journal = written 0 (fitted (slice_index a.0.now 0) a.1.0.now.blocks); writes = []; misreads = 0; phases = []; waited = 0 }

    abbrev bound : (walk_of 𝓛 it.ended stayed (it.clauses 𝓛 mem run)).Ghost
    bound = ((κs, qs, tt, a, ((slice_val a.0.ref_ptr (length a.0.now)) ∷ [], ((vptr a.1.0.ref_ptr.0 a.1.0.ref_ptr.1) ∷ [], tt))), tt)

    abbrev passed : Fml
    passed = owns (types_at it.signature.params κs) a ((slice_val a.0.ref_ptr (length a.0.now)) ∷ [], ((vptr a.1.0.ref_ptr.0 a.1.0.ref_ptr.1) ∷ [], tt))

    walk : (f0 : length a.0.now < 2 ^ 64) → ent 𝓤 (on_entry 𝓛 it.signature κs qs a ((slice_val a.0.ref_ptr (length a.0.now)) ∷ [], ((vptr a.1.0.ref_ptr.0 a.1.0.ref_ptr.1) ∷ [], tt)))
        (WpFn 𝓤 H C Λ code.function ((slice_val a.0.ref_ptr (length a.0.now)) ∷ (vptr a.1.0.ref_ptr.0 a.1.0.ref_ptr.1) ∷ []) ((walk_of 𝓛 it.ended stayed (it.clauses 𝓛 mem run)).post bound))
    walk f0 =
        qed 𝓛 (raw (alive 𝓛 it.signature κs qs) ∷ ‵ passed ∷ []) ∵ enter ! C Λ code.function ((slice_val a.0.ref_ptr (length a.0.now)) ∷ (vptr a.1.0.ref_ptr.0 a.1.0.ref_ptr.1) ∷ []) _ $
        alloc_all ! (λ l. pass_all ! refl ((tt, (tt, (record { fits = f0 }, tt))), ((tt, tt), tt)) $
        sets ! (agg ! (no_more !)) refl (tt, tt) $ sets ! (agg ! (and_then ! (get ! refl) (no_more !))) refl (tt, (tt, tt)) $
        returns ! (look_at ! 0 refl) $ free_all ! refl $
        suffices ! _ (ends_at 𝓛 it.ended stayed (it.clauses 𝓛 mem run) bound v made (tt, (tt, tt)) (tt, (tt, tt))) $
        says ! (refl, refl, refl, refl, refl) $ pure_i ! ((T.the_row).own_val made (v ∷ [])) ((λ vss. (tt, ((λ uss. (tt, tt)), tt))), tt) (((vstruct vnil ∷ [], tt), (refl, ((tt, (refl, tt)), tt))), tt) $
        move ! (1 ∷ 2 ∷ 0 ∷ []) $ done !)

  walks : Walks 𝓛 it.ended stayed (WpFn 𝓤 H C Λ code.function) (it.clauses 𝓛 mem run)
  walks =
      walked 𝓛 it.ended stayed (it.clauses 𝓛 mem run) (WpFn 𝓤 H C Λ code.function) (λ κs. (shr_slice_vals, (shr_vals, tt)))
      (λ κs. (shr_slice_Tells (named 0) κs.0 u32, (shr_Tells (named 1) κs.1.0 held.the_row, tt)))
      (λ κs qs bounds a g are. via 𝓤 _ (fst∗ 𝓤 _ (emp 𝓤)) (walk κs qs a are.0.0.1.0))

meets : {M : Type 1} {𝓤 : Ura M} (𝓛 : Logic 𝓤) (mem : Memory → SProp 𝓤) (run : Routine → Fun 𝓤) (𝓣 : Tables 𝓤 𝓛.H)
    → Meets 𝓛 it.signature (WpFn 𝓤 𝓛.H 𝓣.C 𝓣.Λ code.function) (it.spec 𝓛 mem run)
meets {𝓤 = 𝓤} 𝓛 mem run 𝓣 =
    walk_Meets 𝓛 it.ended stayed (Goes-none_slice 𝓛 2 (0 ∷ []) tt (plain (λ _. u32)) yes, (Goes-none_ref 𝓛 2 (1 ∷ []) tt (plain (λ _. held.the_row)) yes, tt)) (it.clauses 𝓛 mem run) (WpFn 𝓤 𝓛.H 𝓣.C 𝓣.Λ code.function)
    (WpFn-mono 𝓤 𝓛.H 𝓛.laws 𝓣 code.function) (walks 𝓛 mem run 𝓣.C 𝓣.Λ)

pub holding_spec : {M : Type 1} → stated.statement M
unfolding tables_of
holding_spec 𝓤 𝓛 𝓜 𝓡 wired =
    entered 𝓤 𝓛.H (triple_of 𝓛 it.signature (it.spec 𝓛 𝓜.mem 𝓡.returns))
    (tables 𝓤 𝓛.H 𝓜 𝓡 𝓡.env).C (tables 𝓤 𝓛.H 𝓜 𝓡 𝓡.env).Λ #it code.function (code.unfolded 𝓤 𝓛.H 𝓜 𝓡 wired)
    (meets 𝓛 𝓜.mem 𝓡.returns (tables_of 𝓤 𝓛.H 𝓜 (tables 𝓤 𝓛.H 𝓜 𝓡 𝓡.env)))
