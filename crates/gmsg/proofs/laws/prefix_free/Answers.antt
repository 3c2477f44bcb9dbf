use Rattle.gmsg.proofs.laws.prefix_free.Goals as goal

pub returns-clause-request : goal.returns-clause-request
returns-clause-request c =
    let kind = c.prefix_free-2.ensures in
    λ limits format. record { packets = kind.packets limits format; spellings = kind.spellings limits format }

pub returns-clause-ls_reply : goal.returns-clause-ls_reply
returns-clause-ls_reply c =
    let kind = c.prefix_free-3.ensures in
    λ format ends. record { packets = kind.packets format ends; spellings = kind.spellings format ends }

pub returns-clause-fetch_reply : goal.returns-clause-fetch_reply
returns-clause-fetch_reply c =
    let kind = c.prefix_free-4.ensures in
    λ reading. record { packets = kind.packets reading; spellings = kind.spellings reading }
