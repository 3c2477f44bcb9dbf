use Rattle.grefs.proofs.refs.is_below_refs.Goals as goal

pub returns : goal.returns
returns g c =
    let is = rw c.as_bytes.ensures.bytes at c.starts_with.ensures in (
      λ yes. record { well_formed = c.as_bytes.ensures.name; below = (cc) },
      λ below. (let h = below.below in cc),
    )
