use Rattle.std.proofs.Common.{[], ◌∷◌}
use Rattle.volume.proofs.Digits.{ascii_from}
use Rattle.volume.proofs.descriptors.digits.Goals as goal

pub returns-clause-ascii : goal.returns-clause-ascii
returns-clause-ascii c =
    ascii_from
    (c.digit.result ∷ c.digit-2.result ∷ c.digit-3.result ∷ c.digit-4.result ∷ c.digit-5.result ∷ c.digit-6.result ∷ c.digit-7.result ∷ c.digit-8.result ∷ c.digit-9.result ∷ c.digit-10.result ∷ c.digit-11.result ∷ c.digit-12.result ∷ c.digit-13.result ∷ c.digit-14.result ∷ c.digit-15.result ∷ c.digit-16.result ∷ [])
    (c.digit.ensures.ascii, (c.digit-2.ensures.ascii, (c.digit-3.ensures.ascii, (c.digit-4.ensures.ascii, (c.digit-5.ensures.ascii, (c.digit-6.ensures.ascii, (c.digit-7.ensures.ascii, (c.digit-8.ensures.ascii, (c.digit-9.ensures.ascii, (c.digit-10.ensures.ascii, (c.digit-11.ensures.ascii, (c.digit-12.ensures.ascii, (c.digit-13.ensures.ascii, (c.digit-14.ensures.ascii, (c.digit-15.ensures.ascii, (c.digit-16.ensures.ascii, tt))))))))))))))))
