-- Texts that are written one after another.
use Rattle.std.proofs.Common.{◌≡◌, ℕ, ◌≤◌, min, List, ◌++◌, length, take, Option, Result, Ok, Err, sym, ap, subst, ◌∙◌, inl, inr, arith, codes}
use Rattle.std.specs.Prelude.{IsErrAnd, OnOk, OnErr, decimal, is_err}
use Rattle.std.specs.Io.KnownBytes.{Appends, Keeps}
use Rattle.std.proofs.lemmas.List.{take-append-le, take_min}
use Rattle.std.proofs.lemmas.Result.{on_ok_weaker, on_err_weaker}
use Rattle.drive.specs.Journal.{counted}
use Rattle.engine.specs.Streams.{PutsPrefix}
use Rattle.engine.proofs.Messages.{appends_more, front_more}
use Rattle.engine.proofs.Pieces.{keeps_on}
use Rattle.engine.specs.declared.serving.ServeFault.{ServeFault}
use Rattle.engine.specs.declared.serving.ServeFault.TheVariants as streams
use Rattle.programs.specs.declared.fault.Fault.{Fault}
use Rattle.programs.specs.declared.fault.Fault.TheVariants.{Stream}
use Rattle.programs.specs.Lines.{PutsBytes}
use Rattle.programs.specs.FaultLines.{Reports, Said, SaysLine, damage_text, fault_damage, fault_line, fault_name, place_text}

-- a prefix is one of a longer text
pub front_longer : (a b : Option (List ℕ)) (x y : List ℕ) → PutsPrefix a b x → PutsPrefix a b (x ++ y)
front_longer a b x y h =
    let within : min h.0 (length x) ≤ length x = omega arith in
    (min h.0 (length x), subst (λ (l : List ℕ). Appends a b l) (sym (take-append-le (min h.0 (length x)) x y within ∙ take_min h.0 x)) h.1)

-- and stays one where the stream keeps what it has
pub front_kept : (a b c : Option (List ℕ)) (x : List ℕ) → PutsPrefix a b x → Keeps b c → PutsPrefix a c x
front_kept a b c x h kept = (h.0, keeps_on a b c (take h.0 x) h.1 kept)

-- a write that failed is reported as such
pub puts_until : {T : Type 0} (outcome : Result T Fault) (fault : ServeFault) (o w : Option (List ℕ)) (bytes : List ℕ) → IsErrAnd outcome (λ f. f ≡ Stream fault) → fault ≡ streams.Write → PutsPrefix o w bytes → PutsBytes outcome o w bytes
puts_until {T} (Ok x) fault o w bytes is write h = absurd is
puts_until {T} (Err f) fault o w bytes is write h = subst (λ (g : Fault). PutsBytes {T = T} (Err g) o w bytes) (sym (is ∙ ap (λ (x : ServeFault). Stream x) write)) h

-- ---- so many texts, one after another, of which the last came whole or as a prefix

then_front : (a b c : Option (List ℕ)) (x y : List ℕ) → Appends a b x → PutsPrefix b c y → PutsPrefix a c (x ++ y)
then_front a b c x y first front = front_more a b c x y first front

same_front : (a b : Option (List ℕ)) (x y : List ℕ) → x ≡ y → PutsPrefix a b x → PutsPrefix a b y
same_front a b x y e h = subst (λ (l : List ℕ). PutsPrefix a b l) e h

same_text : (a b : Option (List ℕ)) (x y : List ℕ) → x ≡ y → Appends a b x → Appends a b y
same_text a b x y e h = subst (λ (l : List ℕ). Appends a b l) e h

module _ (name : List ℕ) (fault : Fault) (a b c : Option (List ℕ)) where
  abbrev Named : List ℕ
  Named = name ++ codes ": "

  abbrev Told : List ℕ
  Told = Named ++ fault_name fault

  abbrev Placed : List ℕ
  Placed = Told ++ damage_text (fault_damage fault)

  after_told : PutsPrefix a c Told → PutsPrefix a c (fault_line name fault)
  after_told h = front_longer a c Placed (codes "\n") (front_longer a c Told (damage_text (fault_damage fault)) h)

  after_named : PutsPrefix a c Named → PutsPrefix a c (fault_line name fault)
  after_named h = after_told (front_longer a c Named (fault_name fault) h)

  pub cut_name : (n : List ℕ) → n ≡ name → PutsPrefix a c n → PutsPrefix a c (fault_line name fault)
  cut_name n e h = after_named (front_longer a c name (codes ": ") (same_front a c n name e h))

  pub cut_colon : (n : List ℕ) → n ≡ name → Appends a b n → PutsPrefix b c (codes ": ") → PutsPrefix a c (fault_line name fault)
  cut_colon n e first h = after_named (then_front a b c name (codes ": ") (same_text a b n name e first) h)

  pub named : (n : List ℕ) → n ≡ name → Appends a b n → Appends b c (codes ": ") → Appends a c Named
  named n e first h = appends_more a b c name (codes ": ") (same_text a b n name e first) h

  pub cut_fault : (m : List ℕ) → m ≡ fault_name fault → Appends a b Named → PutsPrefix b c m → PutsPrefix a c (fault_line name fault)
  cut_fault m e first h = after_told (then_front a b c Named (fault_name fault) first (same_front b c m (fault_name fault) e h))

  pub told : (m : List ℕ) → m ≡ fault_name fault → Appends a b Named → Appends b c m → Appends a c Told
  told m e first h = appends_more a b c Named (fault_name fault) first (same_text b c m (fault_name fault) e h)

  pub cut_damage : (d : Option (ℕ × ℕ)) → d ≡ fault_damage fault → Appends a b Told → PutsPrefix b c (damage_text d) → PutsPrefix a c (fault_line name fault)
  cut_damage d e first h =
      front_longer a c Placed (codes "\n") (then_front a b c Told (damage_text (fault_damage fault)) first (same_front b c (damage_text d) (damage_text (fault_damage fault)) (ap damage_text e) h))

  pub placed : (d : Option (ℕ × ℕ)) → d ≡ fault_damage fault → Appends a b Told → Appends b c (damage_text d) → Appends a c Placed
  placed d e first h = appends_more a b c Told (damage_text (fault_damage fault)) first (same_text b c (damage_text d) (damage_text (fault_damage fault)) (ap damage_text e) h)

  pub cut_end : {T E : Type 0} (r : Result T E) → Appends a b Placed → OnErr r (PutsPrefix b c (codes "\n")) → OnErr r (PutsPrefix a c (fault_line name fault))
  cut_end r first h = on_err_weaker r (then_front a b c Placed (codes "\n") first) h

  pub ended : {T E : Type 0} (r : Result T E) → Appends a b Placed → OnOk r (Appends b c (codes "\n")) → OnOk r (Appends a c (fault_line name fault))
  ended r first h = on_ok_weaker r (appends_more a b c Placed (codes "\n") first) h

-- where a fault is
module _ (block cause : ℕ) (a b c : Option (List ℕ)) where
  abbrev At : List ℕ
  At = codes " block " ++ decimal block

  abbrev By : List ℕ
  By = At ++ codes " cause "

  after_at : PutsPrefix a c At → PutsPrefix a c (place_text block cause)
  after_at h = front_longer a c By (decimal cause) (front_longer a c At (codes " cause ") h)

  pub cut_block : PutsPrefix a c (codes " block ") → PutsPrefix a c (place_text block cause)
  cut_block h = after_at (front_longer a c (codes " block ") (decimal block) h)

  pub cut_at : (m : List ℕ) → m ≡ decimal block → Appends a b (codes " block ") → PutsPrefix b c m → PutsPrefix a c (place_text block cause)
  cut_at m e first h = after_at (then_front a b c (codes " block ") (decimal block) first (same_front b c m (decimal block) e h))

  pub said_at : (m : List ℕ) → m ≡ decimal block → Appends a b (codes " block ") → Appends b c m → Appends a c At
  said_at m e first h = appends_more a b c (codes " block ") (decimal block) first (same_text b c m (decimal block) e h)

  pub cut_by : Appends a b At → PutsPrefix b c (codes " cause ") → PutsPrefix a c (place_text block cause)
  cut_by first h = front_longer a c By (decimal cause) (then_front a b c At (codes " cause ") first h)

  pub said_by : Appends a b At → Appends b c (codes " cause ") → Appends a c By
  said_by first h = appends_more a b c At (codes " cause ") first h

  pub cut_cause : {T E : Type 0} (r : Result T E) (m : List ℕ) → m ≡ decimal cause → Appends a b By → OnErr r (PutsPrefix b c m) → OnErr r (PutsPrefix a c (place_text block cause))
  cut_cause r m e first h = on_err_weaker r (λ k. then_front a b c By (decimal cause) first (same_front b c m (decimal cause) e k)) h

  pub said_cause : {T E : Type 0} (r : Result T E) (m : List ℕ) → m ≡ decimal cause → Appends a b By → OnOk r (Appends b c m) → OnOk r (Appends a c (place_text block cause))
  said_cause r m e first h = on_ok_weaker r (λ k. appends_more a b c By (decimal cause) first (same_text b c m (decimal cause) e k)) h

-- ---- the line of an outcome

line_said : {T E : Type 0} (r : Result T E) (x : List ℕ) (o v w : Said) → OnOk r (Appends o.contents v.contents x) → OnErr r (PutsPrefix o.contents v.contents x) → v.failures ≡ counted (is_err r) o.failures
    → Keeps v.contents w.contents → w.failures ≡ v.failures → SaysLine o w x
line_said (Ok y) x o v w all front failures kept same = inl (keeps_on o.contents v.contents w.contents x all kept, same ∙ failures)
line_said (Err e) x o v w all front failures kept same = inr (front_kept o.contents v.contents w.contents x front kept, same ∙ failures)

pub reported : {T U E : Type 0} (name : List ℕ) (outcome : Result T Fault) (fault : Fault) (r : Result U E) (o v w : Said) → outcome ≡ Err fault
    → OnOk r (Appends o.contents v.contents (fault_line name fault)) → OnErr r (PutsPrefix o.contents v.contents (fault_line name fault)) → v.failures ≡ counted (is_err r) o.failures
    → Keeps v.contents w.contents → w.failures ≡ v.failures → Reports name outcome o w
reported {T} name outcome fault r o v w is all front failures kept same =
    subst (λ (x : Result T Fault). Reports name x o w) (sym is) (line_said r (fault_line name fault) o v w all front failures kept same)
