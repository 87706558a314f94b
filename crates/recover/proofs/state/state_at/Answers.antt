use Rattle.recover.proofs.state.state_at.Goals as goal

pub state_sharing-requires-clause-known : goal.state_sharing-requires-clause-known
state_sharing-requires-clause-known g c = λ h. c.of_no_nodes-known.ensures _
