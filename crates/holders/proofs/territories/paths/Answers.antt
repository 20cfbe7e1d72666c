use Rattle.holders.proofs.territories.paths.Goals as goal
use Rattle.holders.proofs.Finding.{finds, chain_owns}
use Rattle.holders.proofs.PlainRows.{read_found, fetches, puts, updates}
use Rattle.holders.proofs.Scenes.{position, looked}
use Rattle.holders.proofs.FormsOfTypes.{aim_field, aim_element}

pub returns-clause-found : goal.returns-clause-found
returns-clause-found c os s may root aim f t aims = finds s t aims

pub returns-clause-owned : goal.returns-clause-owned
returns-clause-owned c os o world t chain = chain_owns t chain

pub returns-clause-read : goal.returns-clause-read
returns-clause-read c os may root steps f l world t found = read_found t found

pub returns-clause-fetched : goal.returns-clause-fetched
returns-clause-fetched c f l world r = fetches r

pub returns-clause-put : goal.returns-clause-put
returns-clause-put c os root steps f l v bs world t bare found h = puts t bare found h

pub returns-clause-updated : goal.returns-clause-updated
returns-clause-updated c os root steps l next world t found step = updates t next found step

pub returns-clause-field : goal.returns-clause-field
returns-clause-field c os may facts ty t f aim root i world h simple declared held e from = aim_field i h simple declared held e from

pub returns-clause-element : goal.returns-clause-element
returns-clause-element c os may facts ty t f aim root z world h e from = aim_element h e from

pub returns-clause-named : goal.returns-clause-named
returns-clause-named c facts lent level ps os n ty world names e = (position names n, looked n names e)
