-- What the walks of the exports cite: each lends what lies at its handle for one call, and has it back.
pub use Rattle.std.proofs.Common.{◌≡◌, ℕ, ℤ, List, [], ◌∷◌, ◌++◌, refl, ap, w32, w64, Bor, MutBor}
pub use Rattle.std.proofs.raw_atomic.Walks.{proved}
pub use base.Fraction.{full_share}
pub use base.Logic.{id⊢}
pub use base.Fml.{ftrue, flft, flent, fex}
pub use mir.Syntax.{named}
pub use mir.Val.{vunit, vptr}
pub use contract.Monad.{fact}
pub use contract.Running.{tables}
pub use prog.Wp.{WpFn}
pub use types.Kit.{‵, raw, ◌⊛◌, some, later, prop, at_ret, ◌$◌, ◌∵◌, !, qed, done, move, keep, drop, use1, use2, use3, split, join, fsplit, fjoin, feq_i, feq_l, fpack, pick, await, regoal, suffices, group}
pub use types.Run.{enter, of_opd, unit_lit, addr, from, fld, hop, stop, no_more, and_then, first, blocks, exec, returns}
pub use types.Part.{whole, sub, agg}
pub use types.ByLocal.{alloc_all, pass_all, free_all, look_at, look_in_at, get, get_in, through, sets, sets_last, lands_as, env}
pub use types.SemTy.{Body as Borrowed}
pub use types.Tokens.{lft_new, lft_end}
pub use denote.RattleType.{owns}
pub use denote.Builtin.{u8, u32, u64, i32, unit, Array, SliceRefOf}
pub use denote.Exit.{yes}
pub use denote.Laws.{Is, shows}
pub use denote.Plain.{uint_Lawful, uint_vals, uint_Tells}
pub use denote.Signed.{sint_vals, sint_Tells, sint_Lawful}
pub use mir.ValLaws.{of_z_fits}
pub use denote.Slice.{MutSlice, mut_slice_vals, mut_slice_Tells, ShrSlice, shr_slice_vals, shr_slice_Tells}
pub use denote.Memory.{mem}
pub use denote.Lend.{lends_ref, ref_back}
pub use denote.RawPtr.{Ptr, RawPtr, block_ptr, lies_at, in_a_block, rawptr_vals, rawptr_Tells}
pub use denote.Ref.{MutRef, mut_vals, mut_Tells}
pub use denote.Signature.{plain}
pub use denote.Steps.{nothing, heard, peeks, only}
pub use denote.Triple.Call.{calls_at}
pub use denote.Triple.Clauses.{lasts}
pub use denote.Triple.Entry.{on_entry}
pub use denote.Triple.Spec.{triple_of}
pub use denote.Triple.Walked.{Stays, walk_of, stay_dropped, gave_ref, gave_slice, Goes-dropped, Goes-gave_ref, Goes-gave_slice, ends_at}
pub use denote.Triple.Table.{framed}
