mod Young
