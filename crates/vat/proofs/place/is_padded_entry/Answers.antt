use Rattle.std.proofs.Common.{◌↔◌, List, ℕ, IsTrue, subst}
use Rattle.icb.specs.VatIcb.{IsVatIcb}
use Rattle.vat.proofs.Places.{padded_is}
use Rattle.vat.proofs.place.is_padded_entry.Goals as goal

pub returns : goal.returns
returns c = subst (λ (x : List ℕ). IsTrue c.is_vat_icb.result ↔ IsVatIcb x c.args.number) (padded_is c.args.text.now c.copy_from_slice.new.self c.copy_from_slice.ensures.after c.requires) c.is_vat_icb.ensures
