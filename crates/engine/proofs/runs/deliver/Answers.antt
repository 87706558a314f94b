use Rattle.engine.proofs.runs.deliver.Goals as goal

pub returns-in-Frame-clause-delivers : goal.returns-in-Frame-clause-delivers
returns-in-Frame-clause-delivers g c =
    let a = c.answer.ensures in
    rw c.in-Frame.is (c.read_payload-message.result, rw c.deref.ensures.value at c.read_payload-message.ensures.exact, record { answered = a.answered; calls = a.calls; withstands = a.withstands; planned = a.planned; nothing = a.nothing })
