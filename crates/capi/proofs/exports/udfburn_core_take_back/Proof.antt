-- `udfburn_core_take_back` lends what lies at the handle for the call, and has it back.
use Rattle.capi.proofs.Walking.{ℕ, [], ◌∷◌, refl, ap, MutBor, proved, full_share, id⊢, ftrue, flft, flent, named, vunit, vptr, fact, tables, WpFn, ‵, raw, ◌⊛◌, some, later, prop, at_ret, ◌$◌, ◌∵◌, !, qed, done, move, keep, drop, use1, use2, use3, split, join, fsplit, feq_i, feq_l, fpack, pick, await, regoal, suffices, group, enter, of_opd, unit_lit, addr, stop, no_more, and_then, first, blocks, exec, returns, alloc_all, pass_all, free_all, look_at, get, through, sets, sets_last, lands_as, env, Borrowed, lft_new, lft_end, unit, yes, mem, lends_ref, ref_back, Ptr, RawPtr, block_ptr, lies_at, in_a_block, rawptr_vals, rawptr_Tells, MutRef, plain, nothing, heard, only, calls_at, lasts, on_entry, triple_of, Stays, walk_of, stay_dropped, Goes-dropped, ends_at, framed}
use Rattle.embedding.specs.declared.session.Session.{Session}
use Rattle.embedding.specs.contracts.session.Session.{the_row}
use Rattle.embedding.specs.Grouped.{TakesGroupBack}
use Rattle.capi.specs.contracts.exports.udfburn_core_take_back as f
use Rattle.capi.proofs.exports.udfburn_core_take_back.Statement.{statement}
use Rattle.capi.proofs.exports.udfburn_core_take_back.Code as code
use Rattle.embedding.specs.contracts.calls.take_back as g
use Rattle.embedding.proofs.calls.take_back.Met.{met}

abbrev stayed : Stays f.ended.signature.params f.ended.kept
stayed = (stay_dropped _ yes, tt)

pub udfburn_core_take_back_spec : {M : Type 1} → statement M
udfburn_core_take_back_spec 𝓤 𝓛 𝓜 𝓡 wired =
    let c = f.clauses 𝓛 𝓜.mem 𝓡.returns in let W = walk_of 𝓛 f.ended stayed c in let 𝓣 = tables 𝓤 𝓛.H 𝓜 𝓡 𝓡.env in
    proved 𝓛 f.ended stayed c 𝓜 𝓡 (Goes-dropped 𝓛 0 (plain (λ _. RawPtr)) yes (λ κs x w. refl), tt)
    f.Key.name code.function (code.unfolded 𝓤 𝓛.H 𝓜 𝓡 wired)
    (λ κs. (rawptr_vals, tt)) (λ κs. (rawptr_Tells, tt)) (λ κs qs bounds a held are.
    let y : Ptr → W.Ghost = λ p. ((κs, qs, bounds, (p, tt), (rawptr_vals p, tt)), held) in
    qed 𝓛 (raw (on_entry 𝓛 f.signature κs qs a (y a.0).0.4) ∷ ‵ (lies_at the_row full_share a.0 held) ∷ []) ∵ drop ! $
    in_a_block ! a.0 (λ p. lies_at the_row full_share p held) (id⊢ 𝓤 _) (λ b o e.
    regoal ! (λ p. prop (WpFn 𝓤 𝓛.H 𝓣.C 𝓣.Λ code.function (rawptr_vals p) (W.post (y p)))) e refl $
    enter ! _ _ _ _ _ $ alloc_all ! (λ l. pass_all ! refl ((tt, tt), tt) $
    -- [the session; the parameters; the tokens of their lifetimes; the locals]
    first ! $ blocks ! $
    sets ! (of_opd ! (get ! refl)) refl (tt, tt) $
    sets_last ! (addr ! (through ! refl (stop !))) refl (tt, tt) $
    exec ! 𝓣.C 𝓣.Λ (env code.Mir.locals l) code.Mir.t-2 (at_ret _ (W.post (y (block_ptr b o)))) $
    sets ! (of_opd ! (get ! refl)) refl (tt, tt) $
    lft_new ! tt (λ α. move ! (1 ∷ []) $
    let r : ℕ → MutBor Session = λ δ. record { ref_ptr = (b, o); ghost_name = δ; now = held } in let vs = vptr b o ∷ [] in
    use1 𝓛 (later (some (λ (δ : ℕ). ‵ ((MutRef (named 0) (α ∷ []) the_row).own_val (r δ) vs) ⊛ ‵ (flent (α ∷ []) (Borrowed (mem the_row) b o δ)))))
    (lends_ref 𝓛 the_row (named 0) (α ∷ []) held b o) $ await ! tt $ pick ! (λ δ. split ! $
    -- [the loan; the right to what was lent; the token of α; the parameters; their tokens; the locals]
    let G = triple_of 𝓛 g.signature (g.spec 𝓛 𝓜.mem 𝓡.returns) in
    let z : G.Ghost = (((α ∷ [], tt), (full_share, tt), tt, (r δ, tt), (vs, tt)), tt) in
    nothing ! $ move ! (1 ∷ 0 ∷ []) $ join ! $ nothing ! $ move ! (3 ∷ 0 ∷ []) $ join ! $ join ! $ nothing ! $ move ! (1 ∷ 0 ∷ []) $
    use2 𝓛 (raw (G.pre z)) (id⊢ 𝓤 _) $
    calls_at ! (framed 𝓤 𝓛.H 𝓜 𝓣) G (met 𝓤 𝓛 𝓜 𝓡 (code.calls-embedding::calls::take_back 𝓡.env wired)) z
    (and_then ! (get ! refl) (no_more !)) (λ v.
    use1 𝓛 (later (some (λ (u : Unit {0}). ((‵ (flft (α ∷ []) full_share) ⊛ ‵ ftrue) ⊛ ‵ (unit.own_val u (v ∷ []))) ⊛
    some (λ (ws : Session × Unit {0}). ‵ (lasts g.ended z.0.0 z.0.3 ws) ⊛ raw (fact 𝓤 (TakesGroupBack held ws.0)))))) (id⊢ 𝓤 _) $
    await ! tt $ pick ! (λ u.
    split ! $ split ! $ split ! $ lft_end ! tt $ move ! (2 ∷ []) $
    feq_l ! (λ is_unit. lands_as ! (ap only is_unit) refl (tt, tt) $
    move ! (2 ∷ []) $ pick ! (λ ws. split ! $ move ! (1 ∷ []) $ heard ! _ (λ known. fsplit ! $ fsplit ! $
    move ! (3 ∷ 5 ∷ 0 ∷ []) $ use3 𝓛 (later (‵ ((mem the_row).own_at ws.0 b o))) (ref_back 𝓛 the_row (α ∷ []) δ ws.0 b o) $ await ! tt $
    sets ! (of_opd ! (unit_lit !)) refl (tt, tt) $
    returns ! (look_at ! 0 refl) $ free_all ! refl $
    keep ! (2 ∷ 0 ∷ 3 ∷ []) $ move ! (1 ∷ []) $
    suffices ! _ (ends_at 𝓛 f.ended stayed c (y (block_ptr b o)) vunit tt (tt, tt) (tt, tt)) $
    use1 𝓛 (‵ (lies_at the_row full_share (block_ptr b o) ws.0)) (id⊢ 𝓤 _) $
    fpack ! ((s : Session) × TakesGroupBack held s) (λ s. lies_at the_row full_share (block_ptr b o) s.0) (ws.0, known) $
    feq_i ! _ (vunit ∷ []) _ refl $ move ! (2 ∷ []) $ nothing ! $ join ! $ move ! (3 ∷ 0 ∷ 1 ∷ []) $ group ! 3 $ done !))))))))))
