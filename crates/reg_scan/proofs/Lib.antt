mod FineHomes
mod OwnHomes
