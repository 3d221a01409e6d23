use Rattle.decoder.proofs.fill_decoding.Goals as goal

pub returns : goal.returns
returns c = let t = c.fill_tables.ensures in
    let r = c.fill_rows.ensures in
    record { decoding = record { tables = t.tables; lanes = r.made _ (record { at = t.tables.powers-at }) }; powers_len = (t.powers_len.0, t.powers_len.1, r.full) }
