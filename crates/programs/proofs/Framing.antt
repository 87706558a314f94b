-- The frames of a stream are its messages: those that a reader of frames would take without memory report nothing, and agree with any.
use Rattle.std.proofs.Common.{◌≡◌, ℕ, ◌+◌, ◌≤◌, List, [], ◌∷◌, ◌++◌, length, Option, Some, None, refl, sym, subst, ◌∙◌, append_assoc, arith, inl, inr}
use Rattle.std.specs.List.{AllByRecursion, flat_map}
use Rattle.std.proofs.lemmas.List.Elements.{length_all_zip, recursion_from_All}
use Rattle.request.specs.declared.message.Cause.TheVariants.{TooLong}
use Rattle.request.specs.declared.message.Message.{Message}
use Rattle.request.specs.declared.message.Message.TheVariants.{Malformed, NoMemory}
use Rattle.request.specs.Frames.{Agree, IsIdle, MessagesAre, frame}
use Rattle.request.proofs.FrameLaws.{one_reading}
use Rattle.programs.specs.Counting.{FramesAreMessages}

-- a message for each payload, and then others
abbrev untold : List (List ℕ) → List Message → List Message
untold [] others = others
untold (p ∷ ps) others = NoMemory ∷ untold ps others

untold_long : (payloads : List (List ℕ)) (others : List Message) → length (untold payloads others) ≡ length payloads + length others
untold_long [] others = omega arith
untold_long (p ∷ ps) others = omega (arith, untold_long ps others)

read : (payloads : List (List ℕ)) (bytes rest : List ℕ) (others : List Message) (reader : Option (List ℕ)) → AllByRecursion (λ p. length p ≤ 1114112) payloads
    → bytes ≡ flat_map frame payloads ++ rest → MessagesAre rest others reader → MessagesAre bytes (untold payloads others) reader
read [] bytes rest others reader fits e last = subst (λ (x : List ℕ). MessagesAre x others reader) (sym e) last
read (p ∷ ps) bytes rest others reader fits e last =
    inl (flat_map frame ps ++ rest, (p, record { whole = e ∙ append_assoc (frame p) (flat_map frame ps) rest; fits = fits.0 }, tt), read ps (flat_map frame ps ++ rest) rest others reader fits.1 refl last)

read_to_end : (payloads : List (List ℕ)) (bytes rest : List ℕ) (others messages : List Message) (reader other : Option (List ℕ)) → AllByRecursion (λ p. length p ≤ 1114112) payloads
    → bytes ≡ flat_map frame payloads ++ rest → MessagesAre rest others reader → IsIdle reader → MessagesAre bytes messages other → IsIdle other → length payloads + length others ≡ length messages
read_to_end payloads bytes rest others messages reader other fits e last idle are still =
    sym (untold_long payloads others)
    ∙ length_all_zip Agree (untold payloads others) messages (one_reading (untold payloads others) messages bytes reader other (read payloads bytes rest others reader fits e last) idle are still).1

pub frames_are_messages : FramesAreMessages
frames_are_messages bytes frames messages reader (payloads, rest, splits, inl partial) f =
    omega (arith, partial.0, read_to_end payloads bytes rest [] messages (Some rest) reader (recursion_from_All (λ p. length p ≤ 1114112) payloads splits.each) splits.whole refl partial.1 f.messages_are f.idle)
frames_are_messages bytes frames messages reader (payloads, rest, splits, inr over) f =
    omega (arith, over.0, read_to_end payloads bytes rest (Malformed TooLong ∷ []) messages None reader (recursion_from_All (λ p. length p ≤ 1114112) payloads splits.each) splits.whole (inr (over.1, refl, refl, refl)) tt f.messages_are f.idle)
