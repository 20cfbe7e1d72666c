mod Opening
mod Grouping
mod Earlier
mod Borrowers
mod Heading
