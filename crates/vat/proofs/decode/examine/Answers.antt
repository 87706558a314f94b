use Rattle.std.proofs.Common.{inl, inr, refl}
use Rattle.vat.proofs.decode.examine.Goals as goal

pub returns-then-not-has_entries-clause-fault : goal.returns-then-not-has_entries-clause-fault
returns-then-not-has_entries-clause-fault c =
    let header = c.has_header.ensures.0 c.if-not-has_header.false in
    let label = c.has_label.ensures.0 c.if-not-has_label.false in
    let revisions = c.has_revisions.ensures.0 c.if-not-has_revisions.false in
    let records = c.has_records.ensures.0 c.if-not-has_records.false in
    let clients = c.has_clients.ensures.0 c.if-not-has_clients.false in
    inr (header, inr (label, inr (revisions, inr (records, inr (clients, inl ((λ entries. absurd (let yes = c.has_entries.ensures.1 entries in cc)), refl))))))

pub returns-then-not-has_counts-clause-fault : goal.returns-then-not-has_counts-clause-fault
returns-then-not-has_counts-clause-fault c =
    let header = c.has_header.ensures.0 c.if-not-has_header.false in
    let label = c.has_label.ensures.0 c.if-not-has_label.false in
    let revisions = c.has_revisions.ensures.0 c.if-not-has_revisions.false in
    let records = c.has_records.ensures.0 c.if-not-has_records.false in
    let clients = c.has_clients.ensures.0 c.if-not-has_clients.false in
    let entries = c.has_entries.ensures.0 c.if-not-has_entries.false in
    inr (header, inr (label, inr (revisions, inr (records, inr (clients, inr (entries, inl ((λ counts. absurd (let yes = c.has_counts.ensures.1 counts in cc)), refl)))))))

pub returns-clause-rules : goal.returns-clause-rules
returns-clause-rules c =
    let header = c.has_header.ensures.0 c.if-not-has_header.false in
    let label = c.has_label.ensures.0 c.if-not-has_label.false in
    let revisions = c.has_revisions.ensures.0 c.if-not-has_revisions.false in
    let records = c.has_records.ensures.0 c.if-not-has_records.false in
    let clients = c.has_clients.ensures.0 c.if-not-has_clients.false in
    let entries = c.has_entries.ensures.0 c.if-not-has_entries.false in
    (header, (label, (revisions, (records, (clients, (entries, (c.has_counts.ensures.0 c.if-not-has_counts.false, tt)))))))
